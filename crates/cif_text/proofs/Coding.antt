-- A name that was coded can be read again, and has only bytes that a word may have.
use Rattle.std.specs.Prelude.{ℕ, ◌+◌, ◌-◌, ◌*◌, ◌/◌, ◌%◌, ◌<◌, ◌≤◌, ◌≡◌, ◌==◌, nat_lt, nat_le, Bool, true, false, not, ◌&&◌, List, [], ◌∷◌, ◌++◌, length, Some, None, option_and_then, refl, ◌⊎◌}
use Rattle.std.specs.List.{list_all, flat_map}
use Rattle.std.proofs.Common.{arith, ap, ◌∙◌, inl, inr, if◌then◌else◌, length-append}
use Rattle.std.proofs.lemmas.Bool.Decides.{nat_tests}
use Rattle.std.proofs.lemmas.List.Folds.{list_all-append}
use Rattle.cif_defs.specs.Text.{percent, is_visible, upper_hex_digit, coded_byte, coded, hex_value, if_coded, byte_of_digits, with_byte, plain_byte, decoded}
use Rattle.cif_text.specs.Bytes.{is_byte, are_bytes}
use Rattle.cif_text.proofs.BoolTests.{both, and_true, untrue, below}

-- ---- one byte

-- a byte that stands for itself
abbrev is_plain : ℕ → Bool
is_plain b = is_visible b && not (b == percent)

decoded-plain : (b : ℕ) (rest : List ℕ) → (b == percent) ≡ false → decoded (b ∷ rest) ≡ with_byte (plain_byte b) (decoded rest)
decoded-plain b [] h = refl
decoded-plain b (c ∷ []) h = refl
decoded-plain b (c ∷ d ∷ rest) h = ap (λ s. if s then with_byte (byte_of_digits c d) (decoded rest) else with_byte (plain_byte b) (decoded (c ∷ d ∷ rest))) h

small_or_large : (d : ℕ) → (d < 10) ⊎ (10 ≤ d)
small_or_large d = search arith

upper_small : (d : ℕ) → d < 10 → upper_hex_digit d ≡ 48 + d
upper_small d h =
    let t : nat_lt d 10 ≡ true = grind (arith, nat_tests) in
    ap (λ s. if s then 48 + d else 55 + d) t

upper_large : (d : ℕ) → 10 ≤ d → upper_hex_digit d ≡ 55 + d
upper_large d h =
    let t : nat_lt d 10 ≡ false = grind (arith, nat_tests) in
    ap (λ s. if s then 48 + d else 55 + d) t

value_small : (b : ℕ) → 48 ≤ b → b ≤ 57 → hex_value b ≡ Some (b - 48)
value_small b low high =
    let t : (nat_le 48 b && nat_le b 57) ≡ true = grind (arith, nat_tests) in
    ap (λ s. if s then Some (b - 48) else (if nat_le 65 b && nat_le b 70 then Some (b - 55) else if nat_le 97 b && nat_le b 102 then Some (b - 87) else None)) t

value_large : (b : ℕ) → 65 ≤ b → b ≤ 70 → hex_value b ≡ Some (b - 55)
value_large b low high =
    let t : (nat_le 48 b && nat_le b 57) ≡ false = grind (arith, nat_tests) in
    let u : (nat_le 65 b && nat_le b 70) ≡ true = grind (arith, nat_tests) in
    ap (λ s. if s then Some (b - 48) else (if nat_le 65 b && nat_le b 70 then Some (b - 55) else if nat_le 97 b && nat_le b 102 then Some (b - 87) else None)) t
    ∙ ap (λ s. if s then Some (b - 55) else if nat_le 97 b && nat_le b 102 then Some (b - 87) else None) u

-- a hexadecimal digit can be read again
hex_back : (d : ℕ) → d < 16 → hex_value (upper_hex_digit d) ≡ Some d
hex_back d h = elim (small_or_large d) [
  | inl l ↦ ap hex_value (upper_small d l) ∙ value_small (48 + d) (omega arith) (omega arith) ∙ ap Some (omega arith)
  | inr g ↦ ap hex_value (upper_large d g) ∙ value_large (55 + d) (omega arith) (omega arith) ∙ ap Some (omega arith)
]

hex_visible : (d : ℕ) → d < 16 → is_visible (upper_hex_digit d) ≡ true
hex_visible d h = elim (small_or_large d) [
  | inl l ↦ ap is_visible (upper_small d l) ∙ grind (arith, nat_tests)
  | inr g ↦ ap is_visible (upper_large d g) ∙ grind (arith, nat_tests)
]

byte_back : (b : ℕ) → b < 256 → is_plain b ≡ false → byte_of_digits (upper_hex_digit (b / 16)) (upper_hex_digit (b % 16)) ≡ Some b
byte_back b h p =
    let whole : b / 16 * 16 + b % 16 ≡ b = omega arith in
    ap (λ c. option_and_then (λ high. option_and_then (λ low. if_coded (high * 16 + low)) (hex_value (upper_hex_digit (b % 16)))) c) (hex_back (b / 16) (omega arith))
    ∙ ap (λ c. option_and_then (λ low. if_coded (b / 16 * 16 + low)) c) (hex_back (b % 16) (omega arith))
    ∙ ap if_coded whole
    ∙ ap (λ s. if s then None else Some b) p

-- what one byte is coded as
abbrev coding : Bool → ℕ → List ℕ
coding s b = if s then b ∷ [] else percent ∷ upper_hex_digit (b / 16) ∷ upper_hex_digit (b % 16) ∷ []

one_back : (b : ℕ) (rest : List ℕ) (s : Bool) → is_plain b ≡ s → b < 256 → decoded (coding s b ++ rest) ≡ with_byte (Some b) (decoded rest)
one_back b rest true p h =
    decoded-plain b rest (untrue (b == percent) (both (is_visible b) (not (b == percent)) p).1)
    ∙ ap (λ s. with_byte (if s then Some b else None) (decoded rest)) p
one_back b rest false p h = ap (λ byte. with_byte byte (decoded rest)) (byte_back b h p)

one_visible : (b : ℕ) (s : Bool) → is_plain b ≡ s → b < 256 → list_all is_visible (coding s b) ≡ true
one_visible b true p h = ap (λ t. t && true) (both (is_visible b) (not (b == percent)) p).0
one_visible b false p h = and_true _ _ refl (and_true _ _ (hex_visible (b / 16) (omega arith)) (ap (λ t. t && true) (hex_visible (b % 16) (omega arith))))

one_some : (b : ℕ) (s : Bool) → 0 < length (coding s b)
one_some b true = omega arith
one_some b false = omega arith

-- ---- a name

decoded-flat_map : (name : List ℕ) → are_bytes name ≡ true → decoded (flat_map coded_byte name) ≡ Some name
decoded-flat_map [] h = refl
decoded-flat_map (b ∷ name) h =
    let parts = both (is_byte b) (are_bytes name) h in
    one_back b (flat_map coded_byte name) (is_plain b) refl (below b 256 parts.0)
    ∙ ap (with_byte (Some b)) (decoded-flat_map name parts.1)

-- the name that was coded is read again
pub decoded-coded : (name : List ℕ) → are_bytes name ≡ true → decoded (coded name) ≡ Some name
unfolding coded
decoded-coded name h = decoded-flat_map name h

visible-flat_map : (name : List ℕ) → are_bytes name ≡ true → list_all is_visible (flat_map coded_byte name) ≡ true
visible-flat_map [] h = refl
visible-flat_map (b ∷ name) h =
    let parts = both (is_byte b) (are_bytes name) h in
    list_all-append is_visible (coded_byte b) (flat_map coded_byte name)
    ∙ and_true _ _ (one_visible b (is_plain b) refl (below b 256 parts.0)) (visible-flat_map name parts.1)

pub coded_visible : (name : List ℕ) → are_bytes name ≡ true → list_all is_visible (coded name) ≡ true
unfolding coded
coded_visible name h = visible-flat_map name h

some-flat_map : (name : List ℕ) → 0 < length name → 0 < length (flat_map coded_byte name)
some-flat_map [] h = absurd (omega arith)
some-flat_map (b ∷ name) h = omega (arith, length-append (coded_byte b) (flat_map coded_byte name), one_some b (is_plain b))

pub coded_some : (name : List ℕ) → 0 < length name → 0 < length (coded name)
unfolding coded
coded_some name h = some-flat_map name h
