-- Coded names, byte by byte.
use Rattle.std.specs.Prelude.{ℕ, suc, ◌<◌, ◌≡◌, ◌==◌, nat_le, Bool, true, false, ◌&&◌, List, [], ◌∷◌, ◌++◌, length, get_or, drop, Option, Some, None, option_map, refl}
use Rattle.std.proofs.Common.{arith, sym, ap, ◌∙◌, append_assoc, if◌then◌else◌}
use Rattle.std.proofs.lemmas.Bool.{false≢true}
use Rattle.std.proofs.lemmas.Bool.Decides.{nat_tests}
use Rattle.cif_defs.specs.Text.{plain_byte, byte_of_digits, with_byte, decoded}

long : (a b : Bool) → (a && b) ≡ true → b ≡ true
long true b h = h
long false b h = absurd (let e : false ≡ true = h in false≢true e)

pub coded_first : (text : List ℕ) → (get_or text 0 0 == 37 && nat_le 3 (length text)) ≡ true → decoded text ≡ with_byte (byte_of_digits (get_or text 1 0) (get_or text 2 0)) (decoded (drop 3 text))
coded_first [] h = absurd (false≢true h)
coded_first (b ∷ []) h = absurd (false≢true (long (b == 37) (nat_le 3 1) h))
coded_first (b ∷ c ∷ []) h = absurd (false≢true (long (b == 37) (nat_le 3 2) h))
coded_first (b ∷ c ∷ d ∷ rest) h = by_test (b == 37) (nat_le 3 (suc (suc (suc (length rest))))) h where
  by_test : (t s : Bool) → (t && s) ≡ true → (if t then with_byte (byte_of_digits c d) (decoded rest) else with_byte (plain_byte b) (decoded (c ∷ d ∷ rest))) ≡ with_byte (byte_of_digits c d) (decoded rest)
  by_test true s k = refl
  by_test false s k = absurd (false≢true k)

pub plain_first : (text : List ℕ) → 0 < length text → (get_or text 0 0 == 37 && nat_le 3 (length text)) ≡ false → decoded text ≡ with_byte (plain_byte (get_or text 0 0)) (decoded (drop 1 text))
plain_first [] some h = absurd (omega arith)
plain_first (b ∷ []) some h = refl
plain_first (b ∷ c ∷ []) some h = refl
plain_first (b ∷ c ∷ d ∷ rest) some h = by_test (b == 37) (nat_le 3 (suc (suc (suc (length rest))))) (grind (arith, nat_tests)) h where
  by_test : (t s : Bool) → s ≡ true → (t && s) ≡ false → (if t then with_byte (byte_of_digits c d) (decoded rest) else with_byte (plain_byte b) (decoded (c ∷ d ∷ rest))) ≡ with_byte (plain_byte b) (decoded (c ∷ d ∷ rest))
  by_test true true e k = absurd (false≢true (sym k))
  by_test true false e k = absurd (false≢true e)
  by_test false s e k = refl

-- the bytes that are read, before those of the rest
abbrev pub onto : List ℕ → Option (List ℕ) → Option (List ℕ)
onto name rest = option_map (λ bs. name ++ bs) rest

pub onto_none : (rest : Option (List ℕ)) → onto [] rest ≡ rest
onto_none None = refl
onto_none (Some bs) = refl

onto_by : (name : List ℕ) (b : ℕ) (rest : Option (List ℕ)) → onto name (with_byte (Some b) rest) ≡ onto (name ++ b ∷ []) rest
onto_by name b None = refl
onto_by name b (Some bs) = ap (λ (xs : List ℕ). Some xs) (sym (append_assoc name (b ∷ []) bs))

pub onto_more : (name next : List ℕ) (b : ℕ) (text rest word : List ℕ) → onto name (decoded text) ≡ decoded word → decoded text ≡ with_byte (Some b) (decoded rest) → next ≡ name ++ b ∷ [] → onto next (decoded rest) ≡ decoded word
onto_more name next b text rest word h step e =
    ap (λ xs. onto xs (decoded rest)) e ∙ sym (onto_by name b (decoded rest)) ∙ ap (onto name) (sym step) ∙ h

pub onto_wrong : (name text word : List ℕ) → onto name (decoded text) ≡ decoded word → decoded text ≡ None → None ≡ decoded word
onto_wrong name text word h wrong = sym (ap (onto name) wrong) ∙ h

append_none : (name : List ℕ) → name ++ [] ≡ name
append_none [] = refl
append_none (b ∷ bs) = ap (λ (xs : List ℕ). b ∷ xs) (append_none bs)

pub onto_end : (name text word : List ℕ) → onto name (decoded text) ≡ decoded word → text ≡ [] → Some name ≡ decoded word
onto_end name text word h e = ap (λ (xs : List ℕ). Some xs) (sym (append_none name)) ∙ ap (λ t. onto name (decoded t)) (sym e) ∙ h
