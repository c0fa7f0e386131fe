-- Each output bit of a cell depends on the bits that it reads alone, kind by kind.
use Rattle.std.specs.Prelude.{ℕ, zero, suc, ◌≡◌, Bool, not, ◌&&◌, ◌||◌, List, [], ◌∷◌, ◌++◌, refl}
use Rattle.std.proofs.Common.{ap, ◌∙◌}
use Rattle.cif_defs.specs.Words.{Word, bit, operand, xor}
use Rattle.cif_defs.specs.Cells.{Cell, a_signed, b_signed, both_signed, digits_of, number_of, width, words_by, y_width}
use Rattle.cif_defs.specs.Meanings.{alu_carry_word, alu_sum_word, alu_xor_word, bmux_word, demux_word, div_word, divfloor_word, eq_word, ge_word, gt_word, le_word, logic_and_word, logic_not_word, logic_or_word, lt_word, lut_word, mod_word, modfloor_word, ne_word, reduce_and_word, reduce_or_word, reduce_xnor_word, reduce_xor_word, shift_word, shiftx_word, shl_word, shr_word, sshr_word}
use Rattle.cif_defs.specs.Taint.{output_bit}
use Rattle.cif_defs.specs.declared.kinds.Kind.{Kind}
use Rattle.cif_defs.specs.declared.kinds.Kind.TheVariants.{Not, Pos, Neg, And, Or, Xor, Xnor, Add, Sub, Mul, Div, Mod, DivFloor, ModFloor, Eq, Ne, Eqx, Nex, Lt, Le, Ge, Gt, ReduceAnd, ReduceOr, ReduceXor, ReduceXnor, ReduceBool, LogicNot, LogicAnd, LogicOr, Shl, Sshl, Shr, Sshr, Shift, Shiftx, Mux, Pmux, Bmux, Demux, Concat, Slice, Lut, Fa, Alu}
use Rattle.cif_defs.specs.declared.kinds.Param.TheVariants.{BWidth, SWidth}
use Rattle.cif_defs.specs.declared.kinds.Param.TheVariants.{Lut as LutTable}
use Rattle.cif_supports.specs.Supports.{OperandBit, all_bits, bits_read, low_bits, low_pairs}
use Rattle.cif_supports.specs.Dependence.{AreAsLong, AgreeAt}
use Rattle.cif_supports.proofs.OperandBits.{agree_first, agree_left, agree_later, agree_right, same_operands}
use Rattle.cif_supports.proofs.BitRows.{not_same, pair_same, pos_same}
use Rattle.cif_supports.proofs.SumRows.{SameTo, add_same, alu_carry_same, alu_sum_same, alu_xor_same, mul_same, neg_same, same_low, sub_same}
use Rattle.cif_supports.proofs.ChoiceRows.{concat_same, fa_majority_same, fa_sum_same, mux_same, pmux_same, slice_same}

-- both low parts of a sum
low_a : (c : Cell) (i : ℕ) (more : List OperandBit) (us ws : List Word) → AreAsLong c us → AreAsLong c ws → AgreeAt (low_pairs c i ++ more) us ws → SameTo (both_signed c) i (operand us 0) (operand ws 0)
low_a c i more us ws e f h = same_low (both_signed c) c 0 i us ws e f (agree_left (low_bits c 0 i) (low_bits c 1 i) us ws (agree_left (low_pairs c i) more us ws h))

low_b : (c : Cell) (i : ℕ) (more : List OperandBit) (us ws : List Word) → AreAsLong c us → AreAsLong c ws → AgreeAt (low_pairs c i ++ more) us ws → SameTo (both_signed c) i (operand us 1) (operand ws 1)
low_b c i more us ws e f h = same_low (both_signed c) c 1 i us ws e f (agree_right (low_bits c 0 i) (low_bits c 1 i) us ws (agree_left (low_pairs c i) more us ws h))

plain_a : (c : Cell) (i : ℕ) (us ws : List Word) → AreAsLong c us → AreAsLong c ws → AgreeAt (low_pairs c i) us ws → SameTo (both_signed c) i (operand us 0) (operand ws 0)
plain_a c i us ws e f h = same_low (both_signed c) c 0 i us ws e f (agree_left (low_bits c 0 i) (low_bits c 1 i) us ws h)

plain_b : (c : Cell) (i : ℕ) (us ws : List Word) → AreAsLong c us → AreAsLong c ws → AgreeAt (low_pairs c i) us ws → SameTo (both_signed c) i (operand us 1) (operand ws 1)
plain_b c i us ws e f h = same_low (both_signed c) c 1 i us ws e f (agree_right (low_bits c 0 i) (low_bits c 1 i) us ws h)

-- what reads all operand bits
of_one_word : (row : Word → Word) (c : Cell) (i : ℕ) (us ws : List Word) → AreAsLong c us → AreAsLong c ws → AgreeAt (all_bits c) us ws → bit (row (operand us 0)) i ≡ bit (row (operand ws 0)) i
of_one_word row c i us ws e f h = ap (λ (a : Word). bit (row a) i) (same_operands c 0 us ws e f h)

of_two_words : (row : Word → Word → Word) (c : Cell) (i : ℕ) (us ws : List Word) → AreAsLong c us → AreAsLong c ws → AgreeAt (all_bits c) us ws
    → bit (row (operand us 0) (operand us 1)) i ≡ bit (row (operand ws 0) (operand ws 1)) i
of_two_words row c i us ws e f h =
    ap (λ (a : Word). bit (row a (operand us 1)) i) (same_operands c 0 us ws e f h) ∙ ap (λ (b : Word). bit (row (operand ws 0) b) i) (same_operands c 1 us ws e f h)

-- the carry in and the complement of $alu
alu_controls : (row : Bool → Bool → Word → Word → Word) (c : Cell) (i : ℕ) (us ws : List Word) → AgreeAt (low_pairs c i ++ (2, 0) ∷ (3, 0) ∷ []) us ws
    → ((carry_in invert : Bool) → bit (row carry_in invert (operand us 0) (operand us 1)) i ≡ bit (row carry_in invert (operand ws 0) (operand ws 1)) i)
    → bit (row (bit (operand us 2) 0) (bit (operand us 3) 0) (operand us 0) (operand us 1)) i ≡ bit (row (bit (operand ws 2) 0) (bit (operand ws 3) 0) (operand ws 0) (operand ws 1)) i
alu_controls row c i us ws h same =
    let controls = agree_right (low_pairs c i) ((2, 0) ∷ (3, 0) ∷ []) us ws h in
    let carry_in : bit (operand us 2) 0 ≡ bit (operand ws 2) 0 = agree_first (2, 0) ((3, 0) ∷ []) us ws controls in
    let invert : bit (operand us 3) 0 ≡ bit (operand ws 3) 0 = agree_first (3, 0) [] us ws (agree_later (2, 0) ((3, 0) ∷ []) us ws controls) in
    same (bit (operand us 2) 0) (bit (operand us 3) 0)
    ∙ ap (λ x. bit (row x (bit (operand us 3) 0) (operand ws 0) (operand ws 1)) i) carry_in ∙ ap (λ y. bit (row (bit (operand ws 2) 0) y (operand ws 0) (operand ws 1)) i) invert

alu_same : (c : Cell) (p i : ℕ) (us ws : List Word) → AreAsLong c us → AreAsLong c ws → AgreeAt (low_pairs c i ++ (2, 0) ∷ (3, 0) ∷ []) us ws
    → bit (operand (words_by Alu c us) p) i ≡ bit (operand (words_by Alu c ws) p) i
unfolding words_by
alu_same c zero i us ws e f h = alu_controls (λ carry_in invert a b. alu_xor_word (y_width c) (both_signed c) invert a b) c i us ws h
    (λ carry_in invert. alu_xor_same (y_width c) i (both_signed c) invert _ _ _ _ (low_a c i ((2, 0) ∷ (3, 0) ∷ []) us ws e f h) (low_b c i ((2, 0) ∷ (3, 0) ∷ []) us ws e f h))
alu_same c (suc zero) i us ws e f h = alu_controls (alu_sum_word (y_width c) (both_signed c)) c i us ws h
    (λ carry_in invert. alu_sum_same (y_width c) i (both_signed c) carry_in invert _ _ _ _ (low_a c i ((2, 0) ∷ (3, 0) ∷ []) us ws e f h) (low_b c i ((2, 0) ∷ (3, 0) ∷ []) us ws e f h))
alu_same c (suc (suc zero)) i us ws e f h = alu_controls (alu_carry_word (y_width c) (both_signed c)) c i us ws h
    (λ carry_in invert. alu_carry_same (y_width c) i (both_signed c) carry_in invert _ _ _ _ (low_a c i ((2, 0) ∷ (3, 0) ∷ []) us ws e f h) (low_b c i ((2, 0) ∷ (3, 0) ∷ []) us ws e f h))
alu_same c (suc (suc (suc p))) i us ws e f h = refl

fa_same : (c : Cell) (p i : ℕ) (us ws : List Word) → AgreeAt ((0, i) ∷ (1, i) ∷ (2, i) ∷ []) us ws → bit (operand (words_by Fa c us) p) i ≡ bit (operand (words_by Fa c ws) p) i
unfolding words_by
fa_same c zero i us ws h = fa_majority_same (width c) i us ws h
fa_same c (suc zero) i us ws h = fa_sum_same (width c) i us ws h
fa_same c (suc (suc p)) i us ws h = refl

-- ---- the first output of each other kind

first_same : (k : Kind) (c : Cell) (i : ℕ) (us ws : List Word) → AreAsLong c us → AreAsLong c ws → AgreeAt (bits_read k c i) us ws → bit (operand (words_by k c us) 0) i ≡ bit (operand (words_by k c ws) 0) i
unfolding words_by bits_read
first_same Not c i us ws e f h = not_same (y_width c) c i us ws e f h
first_same Pos c i us ws e f h = pos_same (y_width c) c i us ws e f h
first_same Neg c i us ws e f h = neg_same (y_width c) i (a_signed c) _ _ (same_low (a_signed c) c 0 i us ws e f h)
first_same And c i us ws e f h = pair_same (λ a b. a && b) (y_width c) c i us ws e f h
first_same Or c i us ws e f h = pair_same (λ a b. a || b) (y_width c) c i us ws e f h
first_same Xor c i us ws e f h = pair_same xor (y_width c) c i us ws e f h
first_same Xnor c i us ws e f h = pair_same (λ a b. not (xor a b)) (y_width c) c i us ws e f h
first_same Add c i us ws e f h = add_same (y_width c) i (both_signed c) _ _ _ _ (plain_a c i us ws e f h) (plain_b c i us ws e f h)
first_same Sub c i us ws e f h = sub_same (y_width c) i (both_signed c) _ _ _ _ (plain_a c i us ws e f h) (plain_b c i us ws e f h)
first_same Mul c i us ws e f h = mul_same (y_width c) i (both_signed c) _ _ _ _ (plain_a c i us ws e f h) (plain_b c i us ws e f h)
first_same Div c i us ws e f h = of_two_words (div_word (y_width c) (both_signed c)) c i us ws e f h
first_same Mod c i us ws e f h = of_two_words (mod_word (y_width c) (both_signed c)) c i us ws e f h
first_same DivFloor c i us ws e f h = of_two_words (divfloor_word (y_width c) (both_signed c)) c i us ws e f h
first_same ModFloor c i us ws e f h = of_two_words (modfloor_word (y_width c) (both_signed c)) c i us ws e f h
first_same Eq c i us ws e f h = of_two_words (eq_word (y_width c) (both_signed c)) c i us ws e f h
first_same Ne c i us ws e f h = of_two_words (ne_word (y_width c) (both_signed c)) c i us ws e f h
first_same Eqx c i us ws e f h = of_two_words (eq_word (y_width c) (both_signed c)) c i us ws e f h
first_same Nex c i us ws e f h = of_two_words (ne_word (y_width c) (both_signed c)) c i us ws e f h
first_same Lt c i us ws e f h = of_two_words (lt_word (y_width c) (both_signed c)) c i us ws e f h
first_same Le c i us ws e f h = of_two_words (le_word (y_width c) (both_signed c)) c i us ws e f h
first_same Ge c i us ws e f h = of_two_words (ge_word (y_width c) (both_signed c)) c i us ws e f h
first_same Gt c i us ws e f h = of_two_words (gt_word (y_width c) (both_signed c)) c i us ws e f h
first_same ReduceAnd c i us ws e f h = of_one_word (reduce_and_word (y_width c)) c i us ws e f h
first_same ReduceOr c i us ws e f h = of_one_word (reduce_or_word (y_width c)) c i us ws e f h
first_same ReduceXor c i us ws e f h = of_one_word (reduce_xor_word (y_width c)) c i us ws e f h
first_same ReduceXnor c i us ws e f h = of_one_word (reduce_xnor_word (y_width c)) c i us ws e f h
first_same ReduceBool c i us ws e f h = of_one_word (reduce_or_word (y_width c)) c i us ws e f h
first_same LogicNot c i us ws e f h = of_one_word (logic_not_word (y_width c)) c i us ws e f h
first_same LogicAnd c i us ws e f h = of_two_words (logic_and_word (y_width c)) c i us ws e f h
first_same LogicOr c i us ws e f h = of_two_words (logic_or_word (y_width c)) c i us ws e f h
first_same Shl c i us ws e f h = of_two_words (shl_word (y_width c) (a_signed c)) c i us ws e f h
first_same Sshl c i us ws e f h = of_two_words (shl_word (y_width c) (a_signed c)) c i us ws e f h
first_same Shr c i us ws e f h = of_two_words (shr_word (y_width c) (a_signed c)) c i us ws e f h
first_same Sshr c i us ws e f h = of_two_words (sshr_word (y_width c) (a_signed c)) c i us ws e f h
first_same Shift c i us ws e f h = of_two_words (shift_word (y_width c) (a_signed c) (b_signed c)) c i us ws e f h
first_same Shiftx c i us ws e f h = of_two_words (shiftx_word (y_width c) (b_signed c)) c i us ws e f h
first_same Mux c i us ws e f h = mux_same (width c) c i us ws e f h
first_same Pmux c i us ws e f h = pmux_same c i us ws e f h
first_same Bmux c i us ws e f h = of_two_words (bmux_word (width c)) c i us ws e f h
first_same Demux c i us ws e f h = of_two_words (demux_word (width c) (number_of c SWidth)) c i us ws e f h
first_same Concat c i us ws e f h = concat_same (number_of c BWidth) c i us ws h
first_same Slice c i us ws e f h = slice_same (y_width c) c i us ws h
first_same Lut c i us ws e f h = of_one_word (lut_word (digits_of c LutTable)) c i us ws e f h
first_same Fa c i us ws e f h = fa_same c 0 i us ws h
first_same Alu c i us ws e f h = alu_same c 0 i us ws e f h
first_same _ c i us ws e f h = refl

-- ---- every output

kind_same : (k : Kind) (c : Cell) (p i : ℕ) (us ws : List Word) → AreAsLong c us → AreAsLong c ws → AgreeAt (bits_read k c i) us ws → bit (operand (words_by k c us) p) i ≡ bit (operand (words_by k c ws) p) i
unfolding words_by bits_read
kind_same k c zero i us ws e f h = first_same k c i us ws e f h
kind_same Fa c (suc p) i us ws e f h = fa_same c (suc p) i us ws h
kind_same Alu c (suc p) i us ws e f h = alu_same c (suc p) i us ws e f h
kind_same _ c (suc p) i us ws e f h = refl

-- an output bit depends on the bits that it reads alone
pub output_same : (c : Cell) (p i : ℕ) (us ws : List Word) → AreAsLong c us → AreAsLong c ws → AgreeAt (bits_read c.kind c i) us ws → output_bit c p i us ≡ output_bit c p i ws
output_same c p i us ws e f h = kind_same c.kind c p i us ws e f h
