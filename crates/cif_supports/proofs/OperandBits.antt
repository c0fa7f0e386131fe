-- Operand words that agree at operand bits: at one of them, at an extended bit, at low bits, and at all.
use Rattle.std.specs.Prelude.{ℕ, ◌+◌, ◌-◌, ◌<◌, ◌≤◌, ◌≡◌, Bool, true, false, ◌&&◌, List, [], ◌∷◌, ◌++◌, length, get_or, nat_lt, Contains, refl}
use Rattle.std.proofs.Common.{arith, sym, ap, ◌∙◌, cond, inl, inr, subst}
use Rattle.std.proofs.lemmas.Bool.Decides.{nat_tests}
use Rattle.std.proofs.lemmas.List.{get_or_past}
use Rattle.std.proofs.lemmas.List.Elements.{Contains-append_left, Contains-append_right}
use Rattle.cif_defs.specs.Words.{Word, bit, extended_bit, operand, top}
use Rattle.cif_defs.specs.Cells.{Cell}
use Rattle.cif_defs.proofs.WordLaws.{le_or_lt, same_words}
use Rattle.cif_defs.proofs.Exact.{ext_in, ext_past}
use Rattle.cif_supports.specs.Supports.{OperandBit, bits_from, bits_of, all_bits, extended_at}
use Rattle.cif_supports.specs.Dependence.{AreAsLong, AgreeAt}
use Rattle.cif_supports.proofs.Lists.{contains_first, contains_later, contains_range_map, contains_range_flat}

-- ---- parts of a list of operand bits

pub agree_left : (bits more : List OperandBit) (us ws : List Word) → AgreeAt (bits ++ more) us ws → AgreeAt bits us ws
agree_left bits more us ws h = λ b at. h b (Contains-append_left bits more b at)

pub agree_right : (bits more : List OperandBit) (us ws : List Word) → AgreeAt (bits ++ more) us ws → AgreeAt more us ws
agree_right bits more us ws h = λ b at. h b (Contains-append_right bits more b at)

pub agree_first : (b : OperandBit) (bits : List OperandBit) (us ws : List Word) → AgreeAt (b ∷ bits) us ws → bit (operand us b.0) b.1 ≡ bit (operand ws b.0) b.1
agree_first b bits us ws h = h b (contains_first b bits)

pub agree_later : (b : OperandBit) (bits : List OperandBit) (us ws : List Word) → AgreeAt (b ∷ bits) us ws → AgreeAt bits us ws
agree_later b bits us ws h = λ x at. h x (contains_later b bits x at)

-- ---- one operand

pub contains_from : (p start count i : ℕ) → i < count → Contains (bits_from p start count) (p, start + i)
contains_from p start count i h = contains_range_map (λ k. (p, start + k)) count i h

contains_of : (c : Cell) (p i : ℕ) → i < length (get_or c.operands p []) → Contains (bits_of c p) (p, i)
contains_of c p i h = let e : 0 + i ≡ i = omega arith in subst (λ k. Contains (bits_of c p) (p, k)) e (contains_from p 0 (length (get_or c.operands p [])) i h)

pub same_operand : (c : Cell) (p : ℕ) (us ws : List Word) → AreAsLong c us → AreAsLong c ws → AgreeAt (bits_of c p) us ws → operand us p ≡ operand ws p
same_operand c p us ws e f h =
    let long : length (operand us p) ≡ length (get_or c.operands p []) = e p in
    same_words (operand us p) (operand ws p) (e p ∙ sym (f p)) (λ i l. h (p, i) (contains_of c p i (omega arith)))

-- ---- all operands

agree_of_all : (c : Cell) (p : ℕ) (us ws : List Word) → p < length c.operands → AgreeAt (all_bits c) us ws → AgreeAt (bits_of c p) us ws
agree_of_all c p us ws l h = λ b at. h b (contains_range_flat (bits_of c) (length c.operands) p b l at)

no_operand : (c : Cell) (p : ℕ) (us : List Word) → AreAsLong c us → length c.operands ≤ p → length (operand us p) ≡ 0
no_operand c p us e l = e p ∙ ap length (get_or_past c.operands p [] l)

empty_words : (u w : Word) → length u ≡ 0 → length w ≡ 0 → u ≡ w
empty_words u w e f = same_words u w (e ∙ sym f) (λ i l. absurd (omega arith))

pub same_operands : (c : Cell) (p : ℕ) (us ws : List Word) → AreAsLong c us → AreAsLong c ws → AgreeAt (all_bits c) us ws → operand us p ≡ operand ws p
same_operands c p us ws e f h = elim (le_or_lt p (length c.operands)) [
  | inl l ↦ same_operand c p us ws e f (agree_of_all c p us ws l h)
  | inr l ↦ empty_words (operand us p) (operand ws p) (no_operand c p us e l) (no_operand c p ws f l)
]

-- ---- an extended bit

filled_same : (signed : Bool) (c : Cell) (p : ℕ) (us ws : List Word) → AreAsLong c us → AreAsLong c ws
    → AgreeAt (cond signed ((p, length (get_or c.operands p []) - 1) ∷ []) []) us ws → (signed && top (operand us p)) ≡ (signed && top (operand ws p))
filled_same false c p us ws e f h = refl
filled_same true c p us ws e f h =
    ap (λ k. bit (operand us p) (k - 1)) (e p)
    ∙ agree_first (p, length (get_or c.operands p []) - 1) [] us ws h
    ∙ sym (ap (λ k. bit (operand ws p) (k - 1)) (f p))

extended_by : (signed : Bool) (c : Cell) (p i : ℕ) (us ws : List Word) (inside : Bool) → nat_lt i (length (get_or c.operands p [])) ≡ inside → AreAsLong c us → AreAsLong c ws
    → AgreeAt (cond inside ((p, i) ∷ []) (cond signed ((p, length (get_or c.operands p []) - 1) ∷ []) [])) us ws
    → extended_bit signed i (operand us p) ≡ extended_bit signed i (operand ws p)
extended_by signed c p i us ws true q e f h =
    let l : i < length (get_or c.operands p []) = grind (arith, nat_tests) in
    ext_in signed i (length (get_or c.operands p [])) (operand us p) l (e p) ∙ agree_first (p, i) [] us ws h ∙ sym (ext_in signed i (length (get_or c.operands p [])) (operand ws p) l (f p))
extended_by signed c p i us ws false q e f h =
    let l : length (get_or c.operands p []) ≤ i = grind (arith, nat_tests) in
    ext_past signed i (length (get_or c.operands p [])) (operand us p) l (e p) ∙ filled_same signed c p us ws e f h ∙ sym (ext_past signed i (length (get_or c.operands p [])) (operand ws p) l (f p))

pub same_extended : (signed : Bool) (c : Cell) (p i : ℕ) (us ws : List Word) → AreAsLong c us → AreAsLong c ws → AgreeAt (extended_at signed c p i) us ws
    → extended_bit signed i (operand us p) ≡ extended_bit signed i (operand ws p)
same_extended signed c p i us ws e f h = extended_by signed c p i us ws (nat_lt i (length (get_or c.operands p []))) refl e f h
