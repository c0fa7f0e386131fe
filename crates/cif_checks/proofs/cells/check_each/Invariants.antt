use Rattle.std.proofs.Common.{◌≡◌, drop}
use Rattle.cif_checks.specs.Checks.{first_fault, cell_fault}
use Rattle.cif_checks.proofs.cells.check_each.Given as goal

abbrev pub invariant-loop-cell : goal.invariant-loop-cell
invariant-loop-cell l = first_fault cell_fault (drop l.cell-index l.cells) ≡ first_fault cell_fault l.cells
