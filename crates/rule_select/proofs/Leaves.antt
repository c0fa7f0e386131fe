-- An operand as a tree begins with it: cut or extended.
use Rattle.std.specs.Prelude.{ℕ, ◌-◌, ◌<◌, ◌≤◌, ◌≡◌, ◌≢◌, Bool, true, false, ◌&&◌, List, [], length}
use Rattle.std.proofs.Common.{arith, sym, ap, ◌∙◌, inl, inr}
use Rattle.std.proofs.lemmas.List.{get_or-set_other, get_or_default, get_or_past}
use Rattle.cif_defs.specs.Words.{Word, bit, extended_bit, operand, top, word}
use Rattle.cif_defs.proofs.Numbers.{word-same}
use Rattle.cif_defs.proofs.WordLaws.{le_or_lt}
use Rattle.cif_term.specs.Formulas.{Taint, Value, value_of}
use Rattle.cif_term.specs.Extended.{extended}
use Rattle.cif_term.proofs.Values.{value-extended}
use Rattle.rule_select.proofs.ChoiceTaints.{Ignores, bit_differs}
use Rattle.rule_select.proofs.SelectOperands.{word_of_bits}
use Rattle.rule_select.proofs.DifferTests.{never_differs, same_differ}
use Rattle.rule_select.proofs.TreeLaws.{differs}

-- the bits of operand p, extended
abbrev pub extended_leaf : ℕ → Bool → ℕ → List Word → Bool
extended_leaf p signed i us = extended_bit signed i (operand us p)

pub leaf_ignores : (p : ℕ) (signed : Bool) (q k i : ℕ) → p ≢ q → Ignores (extended_leaf p signed i) q k
leaf_ignores p signed q k i o = record { same = λ d us. ap (λ (w : Word). extended_bit signed i w) (get_or-set_other us q p _ [] o) }

signed_leaf : (p m : ℕ) (vs ts : List Word) (i : ℕ) → p < length vs → length (operand vs p) ≡ m → length (operand ts p) ≡ m → 1 ≤ m → m ≤ i → differs (extended_leaf p true) vs ts i ≡ extended_bit true i (operand ts p)
signed_leaf p m vs ts i there e d some h =
    let last : m - 1 < length (operand vs p) = omega arith in
    same_differ (extended_leaf p true i) (λ us. bit (operand us p) (m - 1)) vs ts
    (λ us c. let l : length (operand us p) ≡ m = (c.each p).as_long ∙ e in get_or_past (operand us p) i (top (operand us p)) (omega arith) ∙ ap (λ k. bit (operand us p) (k - 1)) l)
    ∙ bit_differs p (m - 1) vs ts there last ∙ sym (get_or_past (operand ts p) i (top (operand ts p)) (omega arith) ∙ ap (λ k. bit (operand ts p) (k - 1)) d)

plain_leaf : (p m : ℕ) (vs ts : List Word) (i : ℕ) → length (operand vs p) ≡ m → length (operand ts p) ≡ m → m ≤ i → differs (extended_leaf p false) vs ts i ≡ extended_bit false i (operand ts p)
plain_leaf p m vs ts i e d h =
    never_differs (extended_leaf p false i) vs ts false (λ us c. let l : length (operand us p) ≡ m = (c.each p).as_long ∙ e in get_or_past (operand us p) i false (omega arith))
    ∙ sym (get_or_past (operand ts p) i false (omega arith))

inner_leaf : (p m : ℕ) (signed : Bool) (vs ts : List Word) (i : ℕ) → p < length vs → length (operand vs p) ≡ m → length (operand ts p) ≡ m → i < m → differs (extended_leaf p signed) vs ts i ≡ extended_bit signed i (operand ts p)
inner_leaf p m signed vs ts i there e d h =
    same_differ (extended_leaf p signed i) (λ us. bit (operand us p) i) vs ts
    (λ us c. let l : length (operand us p) ≡ m = (c.each p).as_long ∙ e in get_or_default (operand us p) i (signed && top (operand us p)) false (omega arith))
    ∙ bit_differs p i vs ts there (omega arith) ∙ sym (get_or_default (operand ts p) i (signed && top (operand ts p)) false (omega arith))

-- the taint of an extended bit is that bit of the extended taint
pub leaf_differs : (p m : ℕ) (signed : Bool) (vs ts : List Word) (i : ℕ) → p < length vs → length (operand vs p) ≡ m → length (operand ts p) ≡ m → 1 ≤ m → differs (extended_leaf p signed) vs ts i ≡ extended_bit signed i (operand ts p)
leaf_differs p m true vs ts i there e d some = elim (le_or_lt i m) [
  | inl h ↦ inner_leaf p m true vs ts i there e d h
  | inr h ↦ signed_leaf p m vs ts i there e d some h
]
leaf_differs p m false vs ts i there e d some = elim (le_or_lt i m) [
  | inl h ↦ inner_leaf p m false vs ts i there e d h
  | inr h ↦ plain_leaf p m vs ts i e d h
]

pub value-leaf_taint : (p n m : ℕ) (signed : Bool) (vs ts named : List Word) → p < length vs → length (operand vs p) ≡ m → length (operand ts p) ≡ m → 1 ≤ m
    → value_of (extended n signed m (Taint p)) vs ts named ≡ word n (differs (extended_leaf p signed) vs ts)
value-leaf_taint p n m signed vs ts named there e d some =
    value-extended n m signed (Taint p) vs ts named d some ∙ word-same n _ _ (λ i h. sym (leaf_differs p m signed vs ts i there e d some))

-- an operand as it stands
pub value-plain : (p w : ℕ) (vs ts named : List Word) → length (operand vs p) ≡ w → value_of (Value p) vs ts named ≡ word w (λ i. extended_leaf p false i vs)
value-plain p w vs ts named e = word_of_bits (operand vs p) w e

pub value-plain_taint : (p w : ℕ) (vs ts named : List Word) → p < length vs → length (operand vs p) ≡ w → length (operand ts p) ≡ w → 1 ≤ w → value_of (Taint p) vs ts named ≡ word w (differs (extended_leaf p false) vs ts)
value-plain_taint p w vs ts named there e d some = word_of_bits (operand ts p) w d ∙ word-same w _ _ (λ i h. sym (leaf_differs p w false vs ts i there e d some))
