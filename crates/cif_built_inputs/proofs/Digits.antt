-- Digits that `init` attributes give for a net number, whatever the order of the names.
use Rattle.std.specs.Prelude.{ℕ, zero, suc, ◌+◌, ◌-◌, ◌<◌, ◌≤◌, ◌≡◌, Bool, true, false, not, ◌&&◌, ◌||◌, List, [], ◌∷◌, ◌++◌, length, get_or, codes, eqb, option_to_list, Option, Some, None, refl, if◌then◌else◌}
use Rattle.std.specs.List.{list_any}
use Rattle.std.proofs.Common.{arith, sym, ap, ◌∙◌, inl, inr}
use Rattle.std.proofs.lemmas.Bool.{eq-eqb, eqb-true, or_cases}
use Rattle.std.proofs.lemmas.List.{get_or-reverse}
use Rattle.std.proofs.lemmas.List.Folds.{list_any-append}
use Rattle.cif_defs.specs.Words.{Word, bit}
use Rattle.cif_defs.specs.WordText.{byte_of_bit, text_of}
use Rattle.cif_defs.specs.RawModule.{nets_in, value_named}
use Rattle.cif_defs.specs.Accepted.{digit_at, init_all, init_at, init_digits, init_digits_by, init_for_bit, initial_bit}
use Rattle.cif_defs.specs.declared.raw_module.ParamValue.{ParamValue}
use Rattle.cif_defs.specs.declared.raw_module.RawBit.{RawBit}
use Rattle.cif_defs.specs.declared.raw_module.RawBit.TheVariants.{Net, Zero, One, X, Z}
use Rattle.cif_defs.specs.declared.raw_module.RawName.{RawName}
use Rattle.cif_defs.proofs.WordText.{get_or-text_of, length-text_of}
use Rattle.cif_checks.specs.Checks.{gives_init}
use Rattle.cif_nets.proofs.Places.{At, Has, Has-nets}
use Rattle.cif_built_inputs.proofs.Counts.{count, count-has, one_if}

abbrev pub is_digit : Bool → Bool → Bool
is_digit d e = if d then e else not e

-- ---- the first digit of digits without conflict

pub first_digit : (ds : List Bool) → (list_any (is_digit false) ds && list_any (is_digit true) ds) ≡ false → get_or ds 0 false ≡ list_any (is_digit true) ds
first_digit [] h = refl
first_digit (true ∷ ds) h = refl
first_digit (false ∷ ds) h = sym h

-- ---- name by name

-- whether the `init` of a name gives a net number this digit
abbrev pub gives : ℕ → Bool → RawName → Bool
gives x d name = list_any (is_digit d) (init_digits_by x name.bits (value_named (codes "init") name.attributes))

pub gives_is : (names : List RawName) (x : ℕ) (d : Bool) → gives_init names x d ≡ list_any (gives x d) names
gives_is [] x d = refl
gives_is (name ∷ names) x d =
    list_any-append (is_digit d) (init_digits_by x name.bits (value_named (codes "init") name.attributes)) (init_all names x)
    ∙ ap (λ b. gives x d name || b) (gives_is names x d)

-- where names give no two digits, the net number starts with the one that some name gives
pub starts_with : (names : List RawName) (x : ℕ) → (list_any (gives x false) names && list_any (gives x true) names) ≡ false → initial_bit names (Net x) ≡ list_any (gives x true) names
starts_with names x h = first_digit (init_all names x) (ap (λ b. b && gives_init names x true) (gives_is names x false) ∙ ap (λ b. list_any (gives x false) names && b) (gives_is names x true) ∙ h) ∙ gives_is names x true

-- ---- digits come from bits that hold the number

given_net : (p : Bool → Bool) (v : ParamValue) (x j y : ℕ) (t : Bool) → eqb y x ≡ t → list_any p (option_to_list (if t then init_at v j else None)) ≡ true → y ≡ x
given_net p v x j y true e h = eqb-true y x e
given_net p v x j y false e h = absurd (cc)

pub digits_held : (p : Bool → Bool) (v : ParamValue) (x j : ℕ) (bits : List RawBit) → list_any p (init_digits v x j bits) ≡ true → Has (nets_in bits) x
digits_held p v x j [] h = absurd (cc)
digits_held p v x j (Net y ∷ bits) h = elim (or_cases (list_any p (option_to_list (init_for_bit v x j (Net y)))) (list_any p (init_digits v x (j + 1) bits)) (sym (list_any-append p (option_to_list (init_for_bit v x j (Net y))) (init_digits v x (j + 1) bits)) ∙ h)) [
  | inl here ↦ inl (given_net p v x j y (eqb y x) refl here)
  | inr later ↦ inr (digits_held p v x (j + 1) bits later)
]
digits_held p v x j (Zero ∷ bits) h = digits_held p v x (j + 1) bits h
digits_held p v x j (One ∷ bits) h = digits_held p v x (j + 1) bits h
digits_held p v x j (X ∷ bits) h = digits_held p v x (j + 1) bits h
digits_held p v x j (Z ∷ bits) h = digits_held p v x (j + 1) bits h

held_by_value : (d : Bool) (x : ℕ) (bits : List RawBit) (o : Option ParamValue) → list_any (is_digit d) (init_digits_by x bits o) ≡ true → Has (nets_in bits) x
held_by_value d x bits None h = absurd (cc)
held_by_value d x bits (Some v) h = digits_held (is_digit d) v x 0 bits h

pub gives_held : (x : ℕ) (d : Bool) (name : RawName) → gives x d name ≡ true → Has (nets_in name.bits) x
gives_held x d name h = held_by_value d x name.bits (value_named (codes "init") name.attributes) h

-- ---- digits of bits that hold the number once

none_by : (v : ParamValue) (x j y : ℕ) (bits : List RawBit) (t : Bool) → eqb y x ≡ t → count x (y ∷ nets_in bits) ≡ 0 → (count x (nets_in bits) ≡ 0 → init_digits v x (j + 1) bits ≡ []) → init_digits v x j (Net y ∷ bits) ≡ []
none_by v x j y bits true e n rest = absurd (let one : 1 ≤ count x (y ∷ nets_in bits) = count-has x (y ∷ nets_in bits) (inl (eqb-true y x e)) in omega arith)
none_by v x j y bits false e n rest = ap (λ t. option_to_list (if t then init_at v j else None) ++ init_digits v x (j + 1) bits) e ∙ rest (omega arith)

none_held : (v : ParamValue) (x j : ℕ) (bits : List RawBit) → count x (nets_in bits) ≡ 0 → init_digits v x j bits ≡ []
none_held v x j [] n = refl
none_held v x j (Net y ∷ bits) n = none_by v x j y bits (eqb y x) refl n (none_held v x (j + 1) bits)
none_held v x j (Zero ∷ bits) n = none_held v x (j + 1) bits n
none_held v x j (One ∷ bits) n = none_held v x (j + 1) bits n
none_held v x j (X ∷ bits) n = none_held v x (j + 1) bits n
none_held v x j (Z ∷ bits) n = none_held v x (j + 1) bits n

append_none : (ds : List Bool) → ds ++ [] ≡ ds
append_none [] = refl
append_none (d ∷ ds) = ap (λ es. d ∷ es) (append_none ds)

counted_here : (x y : ℕ) (ms : List ℕ) → eqb y x ≡ true → count x (y ∷ ms) ≡ 1 + count x ms
counted_here x y ms e = (let s : one_if (eqb y x) ≡ 1 = ap one_if e in omega arith)

counted_later : (x y : ℕ) (ms : List ℕ) → eqb y x ≡ false → count x (y ∷ ms) ≡ count x ms
counted_later x y ms e = (let s : one_if (eqb y x) ≡ 0 = ap one_if e in omega arith)

later_by : (v : ParamValue) (x j y i : ℕ) (bits : List RawBit) (t : Bool) → eqb y x ≡ t → At bits i (Net x) → count x (y ∷ nets_in bits) ≤ 1 → (count x (nets_in bits) ≤ 1 → init_digits v x (j + 1) bits ≡ option_to_list (init_at v (j + 1 + i)))
    → init_digits v x j (Net y ∷ bits) ≡ option_to_list (init_at v (j + suc i))
later_by v x j y i bits true e at n rest = absurd (let two = counted_here x y (nets_in bits) e in let later : 1 ≤ count x (nets_in bits) = count-has x (nets_in bits) (Has-nets bits i x at) in omega arith)
later_by v x j y i bits false e at n rest =
    let same = counted_later x y (nets_in bits) e in
    let next : j + 1 + i ≡ j + suc i = omega arith in
    ap (λ t. option_to_list (if t then init_at v j else None) ++ init_digits v x (j + 1) bits) e ∙ rest (omega arith) ∙ ap (λ k. option_to_list (init_at v k)) next

next_place : (v : ParamValue) (j i : ℕ) (ds : List Bool) → ds ≡ option_to_list (init_at v (j + 1 + i)) → ds ≡ option_to_list (init_at v (j + suc i))
next_place v j i ds h = (let next : j + 1 + i ≡ j + suc i = omega arith in h ∙ ap (λ k. option_to_list (init_at v k)) next)

pub one_held : (v : ParamValue) (x j i : ℕ) (bits : List RawBit) → At bits i (Net x) → count x (nets_in bits) ≤ 1 → init_digits v x j bits ≡ option_to_list (init_at v (j + i))
one_held v x j i [] at n = absurd at
one_held v x j zero (Net y ∷ bits) at n =
    let same : y ≡ x = cc in
    let t : eqb y x ≡ true = eq-eqb y x same in
    let once = counted_here x y (nets_in bits) t in
    let here : j ≡ j + 0 = omega arith in
    ap (λ s. option_to_list (if s then init_at v j else None) ++ init_digits v x (j + 1) bits) t
    ∙ ap (λ (ds : List Bool). option_to_list (init_at v j) ++ ds) (none_held v x (j + 1) bits (omega arith))
    ∙ append_none (option_to_list (init_at v j))
    ∙ ap (λ k. option_to_list (init_at v k)) here
one_held v x j zero (Zero ∷ bits) at n = absurd (cc)
one_held v x j zero (One ∷ bits) at n = absurd (cc)
one_held v x j zero (X ∷ bits) at n = absurd (cc)
one_held v x j zero (Z ∷ bits) at n = absurd (cc)
one_held v x j (suc i) (Net y ∷ bits) at n = later_by v x j y i bits (eqb y x) refl at n (one_held v x (j + 1) i bits at)
one_held v x j (suc i) (Zero ∷ bits) at n = next_place v j i _ (one_held v x (j + 1) i bits at n)
one_held v x j (suc i) (One ∷ bits) at n = next_place v j i _ (one_held v x (j + 1) i bits at n)
one_held v x j (suc i) (X ∷ bits) at n = next_place v j i _ (one_held v x (j + 1) i bits at n)
one_held v x j (suc i) (Z ∷ bits) at n = next_place v j i _ (one_held v x (j + 1) i bits at n)

-- ---- the text of a word

digit_of_byte : (b : Bool) → digit_at (byte_of_bit b ∷ []) 0 ≡ Some b
digit_of_byte true = refl
digit_of_byte false = refl

pub digit_of_text : (w : Word) (i : ℕ) → i < length w → digit_at (text_of w) i ≡ Some (bit w i)
digit_of_text w i l =
    let long = length-text_of w in
    let back : length w - 1 - (length (text_of w) - 1 - i) ≡ i = omega arith in
    ap (λ (b : ℕ). digit_at (b ∷ []) 0) (get_or-reverse (text_of w) i 0 (omega arith) ∙ get_or-text_of w (length (text_of w) - 1 - i) 0 (omega arith) ∙ ap (λ k. byte_of_bit (bit w k)) back)
    ∙ digit_of_byte (bit w i)
