-- Wide words, cut into pieces of 4,096 bits.
use Rattle.std.specs.Prelude.{ℕ, ◌*◌, Bool, true, false, List, take, drop}
use Rattle.std.specs.Ordering.{int_eq}
use Rattle.cif_defs.specs.Words.{Word, bit, has_one, is_all_ones, parity}
use Rattle.cif_defs.specs.Meanings.{compared}
use Rattle.cif_defs.specs.declared.raw_module.RawBit.{RawBit}
use Rattle.cif_term.specs.declared.ops.Op1.{Op1}
use Rattle.cif_term.specs.declared.ops.Op1.TheVariants.{Not, ReduceAnd, ReduceOr, ReduceXor}
use Rattle.cif_term.specs.declared.ops.Op2.{Op2}
use Rattle.cif_term.specs.declared.ops.Op2.TheVariants.{And, Or, Xor, Add, Mul, Div, LessUnsigned, LessSigned, Equal}

-- piece number i
abbrev pub piece_at : List RawBit → ℕ → List RawBit
piece_at bits i = take 4096 (drop (i * 4096) bits)

abbrev pub is_reduction : Op1 → Bool
is_reduction Not = false
is_reduction ReduceAnd = true
is_reduction ReduceOr = true
is_reduction ReduceXor = true

-- the bit that a reduction gives
abbrev pub reduced : Op1 → Word → Bool
reduced Not w = bit w 0
reduced ReduceAnd w = is_all_ones w
reduced ReduceOr w = has_one w
reduced ReduceXor w = parity w

-- operations at each place
abbrev pub is_bitwise : Op2 → Bool
is_bitwise And = true
is_bitwise Or = true
is_bitwise Xor = true
is_bitwise Add = false
is_bitwise Mul = false
is_bitwise Div = false
is_bitwise LessUnsigned = false
is_bitwise LessSigned = false
is_bitwise Equal = false

-- whether two words of one width are the same, as the cell that compares them says
abbrev pub are_same : Word → Word → Bool
are_same a b = compared int_eq false a b
