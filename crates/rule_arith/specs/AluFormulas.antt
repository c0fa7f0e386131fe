-- The taint of the outputs of $alu as formulas over the operands A, B, CI and BI of a cell.
use Rattle.std.specs.Prelude.{ℕ, Bool, true, false, Some, if◌then◌else◌}
use Rattle.cif_term.specs.declared.ops.Op1.TheVariants.{Not}
use Rattle.cif_term.specs.declared.ops.Op2.TheVariants.{And, Or, Xor}
use Rattle.cif_term.specs.Extended.{extended}
use Rattle.cif_term.specs.Formulas.{Formula, Taint, Bound, Join, One, Two, Let}
use Rattle.rule_arith.specs.declared.operands.Addend.TheVariants.{Plain, Inverted}
use Rattle.rule_arith.specs.declared.sums.Sums.{Sums}
use Rattle.rule_arith.specs.Addends.{addend_taint, addend_word, bit_bound, operand_taint, repeated}
use Rattle.rule_arith.specs.Bounds.{bounds, half_of, sign_start, taint_below}
use Rattle.rule_arith.specs.Cases.{joined}
use Rattle.rule_arith.specs.SumFormulas.{first_operand, second_operand, sum_at, sums_taint}

-- X, the exclusive or of A and B, which BI complements
abbrev pub alu_xor_taint : ℕ → Bool → ℕ → ℕ → Formula
alu_xor_taint n signed a b = Two Or (Two Or (operand_taint n signed a 0) (operand_taint n signed b 1)) (repeated n (Taint 3))

-- both bounds of the carry in, as words of n bits
abbrev pub carry_bounds : ℕ → Formula
carry_bounds n = Join (extended n false 1 (bit_bound 2 false)) (extended n false 1 (bit_bound 2 true))

-- names the bounds of A (Bound 3), of CI (2), of B where BI is least (1), and of B where BI is greatest (0)
abbrev pub alu_named : ℕ → Bool → ℕ → ℕ → Formula → Formula
alu_named n signed a b body =
    Let (bounds (addend_word n (Plain (first_operand signed a))) (addend_taint n (Plain (first_operand signed a))))
    (Let (carry_bounds n)
    (Let (bounds (addend_word n (Inverted (second_operand signed b) 3 false)) (addend_taint n (Inverted (second_operand signed b) 3 false)))
    (Let (bounds (addend_word n (Inverted (second_operand signed b) 3 true)) (addend_taint n (Inverted (second_operand signed b) 3 true)))
    body)))

-- the sums where BI is at a bound, whose signs start at places j and k
abbrev pub alu_sums : ℕ → ℕ → ℕ → Bool → Sums
alu_sums n j k inverted = record { width = n; first = 3; first_start = j; second = if inverted then 0 else 1; second_start = k; carry = Some 2 }

-- Y, the sum
abbrev pub alu_sum_taint : ℕ → Bool → ℕ → ℕ → Formula
alu_sum_taint n signed a b =
    let s0 : Sums = alu_sums n (sign_start n signed a) (sign_start n signed b) false in
    let s1 : Sums = alu_sums n (sign_start n signed a) (sign_start n signed b) true in
    alu_named n signed a b
    (Two Or (Two Or (taint_below n (sign_start n signed a) (operand_taint n signed a 0)) (taint_below n (sign_start n signed b) (operand_taint n signed b 1)))
    (joined (sums_taint s0) (sums_taint s1) (sum_at s0 false false false) (sum_at s1 false false false)))

-- the carry out of each place: where both bits are 1, or where one is and the sum is 0
abbrev pub carries_at : Sums → Bool → Formula
carries_at s upper =
    let a : Formula = half_of s.width s.width upper upper (Bound s.first) in
    let b : Formula = half_of s.width s.width upper upper (Bound s.second) in
    Two Or (Two And a b) (Two And (Two Or a b) (One Not (sum_at s upper upper upper)))

-- CO: carries grow with each bit of both words that are added
abbrev pub alu_carry_taint : ℕ → Bool → ℕ → ℕ → Formula
alu_carry_taint n signed a b =
    let s0 : Sums = alu_sums n n n false in
    let s1 : Sums = alu_sums n n n true in
    alu_named n signed a b
    (joined (Two Xor (carries_at s0 false) (carries_at s0 true)) (Two Xor (carries_at s1 false) (carries_at s1 true))
    (carries_at s0 false) (carries_at s1 false))
