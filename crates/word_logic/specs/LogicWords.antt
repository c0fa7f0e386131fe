-- The words that bitwise, reducing and wiring kinds give, and their taints: over operand words, and over their taints.
use Rattle.std.specs.Prelude.{ℕ, Bool, true, false, not, ◌&&◌, ◌||◌, []}
use Rattle.cif_defs.specs.Coarse.{max_word, min_word}
use Rattle.cif_defs.specs.Words.{Word, bit, word, extend, extended_bit, flag_word, has_one, is_all_ones, majority}
use Rattle.cif_defs.specs.Meanings.{not_word, pos_word, and_word, or_word, xor_word, xnor_word, reduce_and_word, reduce_or_word, reduce_xor_word, reduce_xnor_word, logic_not_word, logic_and_word, logic_or_word}
use Rattle.cif_defs.specs.declared.kinds.Kind.{Kind}
use Rattle.cif_defs.specs.declared.kinds.Kind.TheVariants.{Not, Pos, And, Or, Xor, Xnor, ReduceAnd, ReduceOr, ReduceXor, ReduceXnor, ReduceBool, LogicNot, LogicAnd, LogicOr}

-- ---- one operand, shown in n bits

unfoldable pub unary_word : Kind → ℕ → Bool → Word → Word
unary_word Not n signed a = not_word n signed a
unary_word Pos n signed a = pos_word n signed a
unary_word ReduceAnd n signed a = reduce_and_word n a
unary_word ReduceOr n signed a = reduce_or_word n a
unary_word ReduceBool n signed a = reduce_or_word n a
unary_word ReduceXor n signed a = reduce_xor_word n a
unary_word ReduceXnor n signed a = reduce_xnor_word n a
unary_word LogicNot n signed a = logic_not_word n a
unary_word _ n signed a = []

-- whether all bits can be 1, and need not
abbrev pub may_be_all_ones : Word → Word → Bool
may_be_all_ones a t = is_all_ones (max_word a t) && not (is_all_ones (min_word a t))

-- whether a bit can be 1, and none has to
abbrev pub may_have_one : Word → Word → Bool
may_have_one a t = has_one (max_word a t) && not (has_one (min_word a t))

-- t is the taint of a
unfoldable pub unary_taint : Kind → ℕ → Bool → Word → Word → Word
unary_taint Not n signed a t = extend n signed t
unary_taint Pos n signed a t = extend n signed t
unary_taint ReduceAnd n signed a t = flag_word n (may_be_all_ones a t)
unary_taint ReduceOr n signed a t = flag_word n (may_have_one a t)
unary_taint ReduceBool n signed a t = flag_word n (may_have_one a t)
unary_taint LogicNot n signed a t = flag_word n (may_have_one a t)
unary_taint ReduceXor n signed a t = flag_word n (has_one t)
unary_taint ReduceXnor n signed a t = flag_word n (has_one t)
unary_taint _ n signed a t = []

-- ---- two operands, shown in n bits

abbrev pub is_bitwise : Kind → Bool
is_bitwise And = true
is_bitwise Or = true
is_bitwise Xor = true
is_bitwise Xnor = true
is_bitwise _ = false

unfoldable pub binary_word : Kind → ℕ → Bool → Word → Word → Word
binary_word And n signed a b = and_word n signed a b
binary_word Or n signed a b = or_word n signed a b
binary_word Xor n signed a b = xor_word n signed a b
binary_word Xnor n signed a b = xnor_word n signed a b
binary_word LogicAnd n signed a b = logic_and_word n a b
binary_word LogicOr n signed a b = logic_or_word n a b
binary_word _ n signed a b = []

-- x and y are bits with the taints tx and ty: a tainted bit shows where the other bit is 1 or tainted
abbrev pub shown_by_and : Bool → Bool → Bool → Bool → Bool
shown_by_and x tx y ty = (tx && ty) || ((tx && y) || (ty && x))

-- a tainted bit shows where the other bit is 0 or tainted
abbrev pub shown_by_or : Bool → Bool → Bool → Bool → Bool
shown_by_or x tx y ty = (tx && ty) || ((tx && not y) || (ty && not x))

-- t and u are the taints of a and b
unfoldable pub binary_taint : Kind → ℕ → Bool → Word → Word → Word → Word → Word
binary_taint And n s a t b u = word n (λ i. shown_by_and (extended_bit s i a) (extended_bit s i t) (extended_bit s i b) (extended_bit s i u))
binary_taint Or n s a t b u = word n (λ i. shown_by_or (extended_bit s i a) (extended_bit s i t) (extended_bit s i b) (extended_bit s i u))
binary_taint Xor n s a t b u = or_word n s t u
binary_taint Xnor n s a t b u = or_word n s t u
binary_taint LogicAnd n s a t b u = flag_word n ((has_one (max_word a t) && has_one (max_word b u)) && not (has_one (min_word a t) && has_one (min_word b u)))
binary_taint LogicOr n s a t b u = flag_word n ((has_one (max_word a t) || has_one (max_word b u)) && not (has_one (min_word a t) || has_one (min_word b u)))
binary_taint _ n s a t b u = []

-- ---- $fa, where t, u and v are the taints of a, b and c

-- the majority of three bits with all tainted bits set, and with all of them cleared
abbrev pub highest_carry : ℕ → Word → Word → Word → Word → Word → Word → Word
highest_carry n a t b u c v = word n (λ i. majority (bit a i || bit t i) (bit b i || bit u i) (bit c i || bit v i))

abbrev pub lowest_carry : ℕ → Word → Word → Word → Word → Word → Word → Word
lowest_carry n a t b u c v = word n (λ i. majority (bit a i && not (bit t i)) (bit b i && not (bit u i)) (bit c i && not (bit v i)))

-- where it can be 1, and need not
abbrev pub carry_taint : ℕ → Word → Word → Word → Word → Word → Word → Word
carry_taint n a t b u c v = word n (λ i. bit (highest_carry n a t b u c v) i && not (bit (lowest_carry n a t b u c v) i))

-- any tainted bit turns a parity
abbrev pub parity_taint : ℕ → Word → Word → Word → Word
parity_taint n t u v = word n (λ i. bit t i || (bit u i || bit v i))
