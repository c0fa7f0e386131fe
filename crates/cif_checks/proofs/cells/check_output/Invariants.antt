use Rattle.std.proofs.Common.{◌≡◌, drop}
use Rattle.cif_checks.specs.declared.fault.BuildFault.TheVariants.{ConstantOutput}
use Rattle.cif_checks.specs.Checks.{first_fault_from, fault_if, is_constant, cell_spot, constant_output}
use Rattle.cif_checks.proofs.cells.check_output.Given as goal

abbrev pub invariant-loop-index : goal.invariant-loop-index
invariant-loop-index l =
    first_fault_from (λ i b. fault_if (is_constant b) (ConstantOutput (cell_spot l.cell l.row) i)) l.index (drop l.index l.bits) ≡ constant_output l.cell l.row
