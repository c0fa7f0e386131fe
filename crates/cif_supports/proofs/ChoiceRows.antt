-- Output bits of choices, joins, parts and full adders depend on the operand bits of their place and on what selects alone.
use Rattle.std.specs.Prelude.{ℕ, zero, suc, ◌+◌, ◌-◌, ◌*◌, ◌<◌, ◌≡◌, Bool, true, false, List, [], ◌∷◌, map, length, get_or, nat_lt, Option, Some, None, position, refl}
use Rattle.std.specs.List.{range_with_len}
use Rattle.std.proofs.Common.{arith, sym, ap, ◌∙◌, cond}
use Rattle.std.proofs.lemmas.List.Elements.{Contains-append_left}
use Rattle.std.proofs.lemmas.List.Quantifiers.{position-Some}
use Rattle.cif_defs.specs.Words.{Word, bit, operand}
use Rattle.cif_defs.specs.Cells.{Cell, number_of, width}
use Rattle.cif_defs.specs.Meanings.{concat_word, fa_majority_word, fa_sum_word, mux_word, pmux_bit, pmux_word, slice_word}
use Rattle.cif_defs.specs.declared.kinds.Param.TheVariants.{AWidth, Offset}
use Rattle.cif_supports.specs.Supports.{bits_of, chosen_at, joined_at}
use Rattle.cif_supports.specs.Dependence.{AreAsLong, AgreeAt}
use Rattle.cif_supports.proofs.Lists.{contains_later, contains_range_map}
use Rattle.cif_supports.proofs.OperandBits.{agree_first, agree_later, agree_right, same_operand}
use Rattle.cif_supports.proofs.BitRows.{same_bit}

-- ---- choices

same_select : (c : Cell) (i : ℕ) (us ws : List Word) → AreAsLong c us → AreAsLong c ws → AgreeAt (chosen_at c i) us ws → operand us 2 ≡ operand ws 2
same_select c i us ws e f h =
    same_operand c 2 us ws e f (agree_right (map (λ k. (1, k * width c + i)) (range_with_len 0 (length (get_or c.operands 2 [])))) (bits_of c 2) us ws (agree_later (0, i) _ us ws h))

-- bit i of word k of B
same_word : (c : Cell) (i k : ℕ) (us ws : List Word) → AgreeAt (chosen_at c i) us ws → k < length (get_or c.operands 2 []) → bit (operand us 1) (k * width c + i) ≡ bit (operand ws 1) (k * width c + i)
same_word c i k us ws h l = h (1, k * width c + i) (contains_later (0, i) _ (1, k * width c + i)
    (Contains-append_left (map (λ j. (1, j * width c + i)) (range_with_len 0 (length (get_or c.operands 2 [])))) (bits_of c 2) (1, k * width c + i)
    (contains_range_map (λ j. (1, j * width c + i)) (length (get_or c.operands 2 [])) k l)))

bit_inside : (w : Word) (i : ℕ) → bit w i ≡ true → i < length w
bit_inside [] i h = absurd (cc)
bit_inside (b ∷ w) zero h = omega arith
bit_inside (b ∷ w) (suc i) h = let l : i < length w = bit_inside w i h in omega arith

mux_cases : (c : Cell) (i : ℕ) (us ws : List Word) (s : Bool) → bit (operand us 2) 0 ≡ s → AreAsLong c us → AgreeAt (chosen_at c i) us ws
    → cond s (bit (operand us 1) i) (bit (operand us 0) i) ≡ cond s (bit (operand ws 1) i) (bit (operand ws 0) i)
mux_cases c i us ws true q e h =
    let l : 0 < length (operand us 2) = bit_inside (operand us 2) 0 q in
    let long : length (operand us 2) ≡ length (get_or c.operands 2 []) = e 2 in
    let at : i ≡ 0 * width c + i = omega arith in
    ap (λ j. bit (operand us 1) j) at ∙ same_word c i 0 us ws h (omega arith) ∙ sym (ap (λ j. bit (operand ws 1) j) at)
mux_cases c i us ws false q e h = agree_first (0, i) _ us ws h

pub mux_same : (n : ℕ) (c : Cell) (i : ℕ) (us ws : List Word) → AreAsLong c us → AreAsLong c ws → AgreeAt (chosen_at c i) us ws
    → bit (mux_word n (operand us 0) (operand us 1) (operand us 2)) i ≡ bit (mux_word n (operand ws 0) (operand ws 1) (operand ws 2)) i
mux_same n c i us ws e f h = same_bit n _ _ i (λ l.
    mux_cases c i us ws (bit (operand us 2) 0) refl e h ∙ ap (λ (s : Word). cond (bit s 0) (bit (operand ws 1) i) (bit (operand ws 0) i)) (same_select c i us ws e f h))

pmux_cases : (c : Cell) (i : ℕ) (us ws : List Word) (o : Option ℕ) → position (λ x. x) (operand us 2) ≡ o → AreAsLong c us → AgreeAt (chosen_at c i) us ws
    → pmux_bit (width c) (operand us 0) (operand us 1) i o ≡ pmux_bit (width c) (operand ws 0) (operand ws 1) i o
pmux_cases c i us ws None q e h = agree_first (0, i) _ us ws h
pmux_cases c i us ws (Some k) q e h =
    let found = position-Some (λ x. x) (operand us 2) k false q in
    let l : k < length (operand us 2) = found.0 in
    let long : length (operand us 2) ≡ length (get_or c.operands 2 []) = e 2 in
    same_word c i k us ws h (omega arith)

pub pmux_same : (c : Cell) (i : ℕ) (us ws : List Word) → AreAsLong c us → AreAsLong c ws → AgreeAt (chosen_at c i) us ws
    → bit (pmux_word (width c) (operand us 0) (operand us 1) (operand us 2)) i ≡ bit (pmux_word (width c) (operand ws 0) (operand ws 1) (operand ws 2)) i
pmux_same c i us ws e f h = same_bit (width c) _ _ i (λ l.
    pmux_cases c i us ws (position (λ x. x) (operand us 2)) refl e h
    ∙ ap (λ (s : Word). pmux_bit (width c) (operand ws 0) (operand ws 1) i (position (λ x. x) s)) (same_select c i us ws e f h))

-- ---- three operands, bit by bit

pub fa_majority_same : (n i : ℕ) (us ws : List Word) → AgreeAt ((0, i) ∷ (1, i) ∷ (2, i) ∷ []) us ws
    → bit (fa_majority_word n (operand us 0) (operand us 1) (operand us 2)) i ≡ bit (fa_majority_word n (operand ws 0) (operand ws 1) (operand ws 2)) i
fa_majority_same n i us ws h = same_bit n _ _ i (λ l.
    let x : bit (operand us 0) i ≡ bit (operand ws 0) i = agree_first (0, i) ((1, i) ∷ (2, i) ∷ []) us ws h in
    let rest = agree_later (0, i) ((1, i) ∷ (2, i) ∷ []) us ws h in
    let y : bit (operand us 1) i ≡ bit (operand ws 1) i = agree_first (1, i) ((2, i) ∷ []) us ws rest in
    let z : bit (operand us 2) i ≡ bit (operand ws 2) i = agree_first (2, i) [] us ws (agree_later (1, i) ((2, i) ∷ []) us ws rest) in
    cc)

pub fa_sum_same : (n i : ℕ) (us ws : List Word) → AgreeAt ((0, i) ∷ (1, i) ∷ (2, i) ∷ []) us ws
    → bit (fa_sum_word n (operand us 0) (operand us 1) (operand us 2)) i ≡ bit (fa_sum_word n (operand ws 0) (operand ws 1) (operand ws 2)) i
fa_sum_same n i us ws h = same_bit n _ _ i (λ l.
    let x : bit (operand us 0) i ≡ bit (operand ws 0) i = agree_first (0, i) ((1, i) ∷ (2, i) ∷ []) us ws h in
    let rest = agree_later (0, i) ((1, i) ∷ (2, i) ∷ []) us ws h in
    let y : bit (operand us 1) i ≡ bit (operand ws 1) i = agree_first (1, i) ((2, i) ∷ []) us ws rest in
    let z : bit (operand us 2) i ≡ bit (operand ws 2) i = agree_first (2, i) [] us ws (agree_later (1, i) ((2, i) ∷ []) us ws rest) in
    cc)

-- ---- joins and parts

concat_cases : (m i : ℕ) (us ws : List Word) (low : Bool) → AgreeAt (cond low ((0, i) ∷ []) ((1, i - m) ∷ [])) us ws
    → cond low (bit (operand us 0) i) (bit (operand us 1) (i - m)) ≡ cond low (bit (operand ws 0) i) (bit (operand ws 1) (i - m))
concat_cases m i us ws true h = agree_first (0, i) [] us ws h
concat_cases m i us ws false h = agree_first (1, i - m) [] us ws h

pub concat_same : (k : ℕ) (c : Cell) (i : ℕ) (us ws : List Word) → AgreeAt (joined_at c i) us ws
    → bit (concat_word (number_of c AWidth) k (operand us 0) (operand us 1)) i ≡ bit (concat_word (number_of c AWidth) k (operand ws 0) (operand ws 1)) i
concat_same k c i us ws h = same_bit (number_of c AWidth + k) _ _ i (λ l. concat_cases (number_of c AWidth) i us ws (nat_lt i (number_of c AWidth)) h)

pub slice_same : (n : ℕ) (c : Cell) (i : ℕ) (us ws : List Word) → AgreeAt ((0, number_of c Offset + i) ∷ []) us ws
    → bit (slice_word n (number_of c Offset) (operand us 0)) i ≡ bit (slice_word n (number_of c Offset) (operand ws 0)) i
slice_same n c i us ws h = same_bit n _ _ i (λ l. agree_first (0, number_of c Offset + i) [] us ws h)
