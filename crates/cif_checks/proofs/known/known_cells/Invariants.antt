use Rattle.std.proofs.Common.{◌≡◌, take}
use Rattle.cif_checks.proofs.known.known_cells.Given as goal

abbrev pub invariant-loop-cell : goal.invariant-loop-cell
invariant-loop-cell l = l.known.items ≡ take l.cell-index l.cells
