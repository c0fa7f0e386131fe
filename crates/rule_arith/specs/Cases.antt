-- Taint by cases on sign bits: a bit is tainted where a case taints it, or where the values of two cases differ.
use Rattle.std.specs.Prelude.{Bool, true, false, if◌then◌else◌}
use Rattle.cif_term.specs.declared.ops.Op2.TheVariants.{Or, Xor}
use Rattle.cif_term.specs.Formulas.{Formula, Two}

-- the taint from that of two cases, and a value of each
abbrev pub joined : Formula → Formula → Formula → Formula → Formula
joined t0 t1 v0 v1 = Two Or (Two Or t0 t1) (Two Xor v0 v1)

-- g upper a b: the value in the case where one sign is a and the other b, at its least or at its greatest words
abbrev pub case_taint : (Bool → Bool → Bool → Formula) → Bool → Bool → Formula
case_taint g a b = Two Xor (g false a b) (g true a b)

abbrev pub second_taint : Bool → (Bool → Bool → Bool → Formula) → Bool → Formula
second_taint split g a = if split then joined (case_taint g a false) (case_taint g a true) (g false a false) (g false a true) else case_taint g a false

-- first, second: whether there are two cases of the one sign, and of the other
abbrev pub cases_taint : Bool → Bool → (Bool → Bool → Bool → Formula) → Formula
cases_taint first second g =
    if first
    then joined (second_taint second g false) (second_taint second g true) (g false false false) (g false true false)
    else second_taint second g false
