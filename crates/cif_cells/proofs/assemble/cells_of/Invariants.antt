use Rattle.std.proofs.Common.{◌≡◌, map, take}
use Rattle.cif_defs.specs.Accepted.{cell_of}
use Rattle.cif_cells.proofs.assemble.cells_of.Given as goal

abbrev pub invariant-loop-cell : goal.invariant-loop-cell
invariant-loop-cell l = l.assembled.items ≡ map (cell_of l.numbers) (take l.cell-index l.cells)
