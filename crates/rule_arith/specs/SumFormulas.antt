-- The taint of sums as a formula over the operands of a cell.
use Rattle.std.specs.Prelude.{ℕ, nat_lt, Bool, Option, Some, None}
use Rattle.cif_defs.specs.Cells.{Cell, a_signed, both_signed, number_of, y_width}
use Rattle.cif_defs.specs.declared.kinds.Param.TheVariants.{AWidth, BWidth}
use Rattle.cif_term.specs.declared.ops.Op2.TheVariants.{Add, Or}
use Rattle.cif_term.specs.Formulas.{Formula, Bound, Two, Let}
use Rattle.rule_arith.specs.declared.operands.Operand.{Operand}
use Rattle.rule_arith.specs.declared.operands.Addend.{Addend}
use Rattle.rule_arith.specs.declared.operands.Addend.TheVariants.{Plain, Complement, Unit as UnitAddend}
use Rattle.rule_arith.specs.declared.sums.Sums.{Sums}
use Rattle.rule_arith.specs.Addends.{addend_start, addend_taint, addend_word}
use Rattle.rule_arith.specs.Bounds.{bounds, half_of, taint_below}
use Rattle.rule_arith.specs.Cases.{cases_taint}

-- with a carry in, where there is one
abbrev pub with_carry : ℕ → Bool → Option ℕ → Formula → Formula
with_carry n upper None f = f
with_carry n upper (Some z) f = Two Add f (half_of n n upper upper (Bound z))

-- the sum of a bound of each addend, in the case where the one sign is p and the other q; s says which Bound names the
-- bounds of each
abbrev pub sum_at : Sums → Bool → Bool → Bool → Formula
sum_at s upper p q =
    with_carry s.width upper s.carry
    (Two Add (half_of s.width s.first_start upper p (Bound s.first)) (half_of s.width s.second_start upper q (Bound s.second)))

abbrev pub sums_taint : Sums → Formula
sums_taint s = cases_taint (nat_lt s.first_start s.width) (nat_lt s.second_start s.width) (sum_at s)

-- the taint of the sum of n bits of f with taint t, and g with taint u, whose signs start at places j and k: where a
-- tainted bit stands that is no sign, and where the sums of bounds differ
abbrev pub sum_formula : ℕ → ℕ → ℕ → Formula → Formula → Formula → Formula → Formula
sum_formula n j k f t g u =
    Let (bounds f t) (Let (bounds g u)
    (Two Or (Two Or (taint_below n j t) (taint_below n k u))
    (sums_taint (record { width = n; first = 1; first_start = j; second = 0; second_start = k; carry = None }))))

abbrev pub sum_taint : ℕ → Addend → Addend → Formula
sum_taint n x y = sum_formula n (addend_start n x) (addend_start n y) (addend_word n x) (addend_taint n x) (addend_word n y) (addend_taint n y)

-- A and B of a cell, with a and b bits
abbrev pub first_operand : Bool → ℕ → Operand
first_operand signed a = record { port = 0; bits = a; signed = signed }

abbrev pub second_operand : Bool → ℕ → Operand
second_operand signed b = record { port = 1; bits = b; signed = signed }

-- $add of n bits
abbrev pub add_taint : ℕ → Bool → ℕ → ℕ → Formula
add_taint n signed a b = sum_taint n (Plain (first_operand signed a)) (Plain (second_operand signed b))

-- $sub: A - B is the complement of the sum of the complement of A and B
abbrev pub sub_taint : ℕ → Bool → ℕ → ℕ → Formula
sub_taint n signed a b = sum_taint n (Complement (first_operand signed a)) (Plain (second_operand signed b))

-- $neg: -A is the complement of A, and 1
abbrev pub neg_taint : ℕ → Bool → ℕ → Formula
neg_taint n signed a = sum_taint n (Complement (first_operand signed a)) UnitAddend

-- a formula over the width and the sign of a cell's one operand
abbrev pub of_own : (ℕ → Bool → ℕ → Formula) → Cell → Formula
of_own f c = f (y_width c) (a_signed c) (number_of c AWidth)

-- a formula over the widths and the common sign of a cell's operands
abbrev pub of_pair : (ℕ → Bool → ℕ → ℕ → Formula) → Cell → Formula
of_pair f c = f (y_width c) (both_signed c) (number_of c AWidth) (number_of c BWidth)
