-- The taint of equality as a formula over the operands of a cell.
use Rattle.std.specs.Prelude.{ℕ, max, nat_lt, Bool, true, false, if◌then◌else◌}
use Rattle.cif_term.specs.declared.ops.Op1.TheVariants.{Not, ReduceOr}
use Rattle.cif_term.specs.declared.ops.Op2.TheVariants.{And, Or}
use Rattle.cif_term.specs.Extended.{extended}
use Rattle.cif_term.specs.Formulas.{Formula, Taint, Bound, One, Two, Let}
use Rattle.rule_arith.specs.Addends.{operand_taint, operand_word}
use Rattle.rule_arith.specs.Bounds.{bounds, half_of, sign_start}

-- whether both words can be the same in the case where the one sign is p and the other q: a bit that one of them must
-- have, both can have. Bound 1 names the bounds of the first, whose sign starts at place j, and Bound 0 those of the
-- second, whose sign starts at place k
abbrev pub meets_at : ℕ → ℕ → ℕ → Bool → Bool → Formula
meets_at m j k p q =
    One Not (One ReduceOr (Two And
    (Two Or (half_of m j false p (Bound 1)) (half_of m k false q (Bound 0)))
    (One Not (Two And (half_of m j true p (Bound 1)) (half_of m k true q (Bound 0))))))

-- in one of two cases, where there are two
abbrev pub either_case : Bool → (Bool → Formula) → Formula
either_case split f = if split then Two Or (f false) (f true) else f false

abbrev pub meets : ℕ → ℕ → ℕ → Formula
meets m j k = either_case (nat_lt j m) (λ p. either_case (nat_lt k m) (meets_at m j k p))

-- whether it depends on tainted bits that operands of a and b bits are the same: they can be the same, and some bit is
-- tainted, which then can make them differ
abbrev pub equal_bit : ℕ → Bool → ℕ → ℕ → Formula
equal_bit m signed a b =
    Let (bounds (operand_word m signed a 0) (operand_taint m signed a 0))
    (Let (bounds (operand_word m signed b 1) (operand_taint m signed b 1))
    (Two And (meets m (sign_start m signed a) (sign_start m signed b)) (Two Or (One ReduceOr (Taint 0)) (One ReduceOr (Taint 1)))))

-- $eq, $ne, $eqx and $nex of n bits
abbrev pub equal_taint : ℕ → Bool → ℕ → ℕ → Formula
equal_taint n signed a b = extended n false 1 (equal_bit (max a b) signed a b)
