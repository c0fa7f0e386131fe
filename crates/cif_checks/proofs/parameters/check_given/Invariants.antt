use Rattle.std.proofs.Common.{◌≡◌, not, drop}
use Rattle.cif_defs.specs.Table.{parameters_of}
use Rattle.cif_checks.specs.Checks.{first_fault, fault_if, has_value, bad_parameter}
use Rattle.cif_checks.proofs.parameters.check_given.Given as goal

abbrev pub invariant-loop-param : goal.invariant-loop-param
invariant-loop-param l =
    first_fault (λ p. fault_if (not (has_value l.cell p)) (bad_parameter l.cell p)) (drop l.param-index l.param-items)
    ≡ first_fault (λ p. fault_if (not (has_value l.cell p)) (bad_parameter l.cell p)) (parameters_of l.fn.kind)
