use Rattle.std.proofs.Common.{◌≡◌, take}
use Rattle.std.specs.List.{sum_by}
use Rattle.cif_defs.specs.Cells.{state_bits}
use Rattle.cif_cells.proofs.state.total_bits.Given as goal

abbrev pub invariant-loop-cell : goal.invariant-loop-cell
invariant-loop-cell l = l.total ≡ sum_by state_bits (take l.cell-index l.cells)
