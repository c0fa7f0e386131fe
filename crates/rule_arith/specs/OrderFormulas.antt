-- The taint of comparisons as a formula over the operands of a cell.
use Rattle.std.specs.Prelude.{ℕ, max, Bool, false, if◌then◌else◌}
use Rattle.cif_term.specs.declared.ops.Op2.{Op2}
use Rattle.cif_term.specs.declared.ops.Op2.TheVariants.{LessSigned, LessUnsigned, Xor}
use Rattle.cif_term.specs.Extended.{extended}
use Rattle.cif_term.specs.Formulas.{Formula, Bound, Two, Let}
use Rattle.rule_arith.specs.Bounds.{bounds, greatest_of, least_of, order_start}
use Rattle.rule_arith.specs.Addends.{operand_taint, operand_word}

abbrev pub less_op : Bool → Op2
less_op signed = if signed then LessSigned else LessUnsigned

-- whether it depends on tainted bits that operand p of a bits is less than operand q of b bits: it can be less, and it
-- can be not less
abbrev pub less_bit : ℕ → Bool → ℕ → ℕ → ℕ → ℕ → Formula
less_bit m signed a p b q =
    Let (bounds (operand_word m signed a p) (operand_taint m signed a p))
    (Let (bounds (operand_word m signed b q) (operand_taint m signed b q))
    (Two Xor
    (Two (less_op signed) (least_of m (order_start m signed a) (Bound 1)) (greatest_of m (order_start m signed b) (Bound 0)))
    (Two (less_op signed) (greatest_of m (order_start m signed a) (Bound 1)) (least_of m (order_start m signed b) (Bound 0)))))

-- $lt and $ge of n bits, whose operands have a and b bits
abbrev pub less_taint : ℕ → Bool → ℕ → ℕ → Formula
less_taint n signed a b = extended n false 1 (less_bit (max a b) signed a 0 b 1)

-- $gt and $le: of the operands exchanged
abbrev pub greater_taint : ℕ → Bool → ℕ → ℕ → Formula
greater_taint n signed a b = extended n false 1 (less_bit (max a b) signed b 1 a 0)
