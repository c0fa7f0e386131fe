use Rattle.std.proofs.Common.{◌≡◌, not, drop}
use Rattle.cif_defs.specs.RawModule.{is_net}
use Rattle.cif_checks.specs.declared.fault.Spot.TheVariants.{Port}
use Rattle.cif_checks.specs.declared.fault.BuildFault.TheVariants.{ConstantOutput}
use Rattle.cif_checks.specs.Checks.{first_fault_from, fault_if, constant_input}
use Rattle.cif_checks.proofs.ports.check_constants.Given as goal

abbrev pub invariant-loop-index : goal.invariant-loop-index
invariant-loop-index l =
    first_fault_from (λ i b. fault_if (not (is_net b)) (ConstantOutput (Port l.port.name) i)) l.index (drop l.index l.port.bits) ≡ constant_input l.port
