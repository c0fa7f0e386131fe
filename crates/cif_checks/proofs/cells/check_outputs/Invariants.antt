use Rattle.std.proofs.Common.{◌≡◌, drop}
use Rattle.cif_defs.specs.Table.{outputs_of}
use Rattle.cif_checks.specs.Checks.{first_fault, constant_output}
use Rattle.cif_checks.proofs.cells.check_outputs.Given as goal

abbrev pub invariant-loop-index : goal.invariant-loop-index
invariant-loop-index l = first_fault (constant_output l.cell) (drop l.index l.row-items) ≡ first_fault (constant_output l.cell) (outputs_of l.fn.kind)
