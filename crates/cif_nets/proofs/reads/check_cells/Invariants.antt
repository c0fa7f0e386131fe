use Rattle.std.proofs.Common.{◌≡◌, drop}
use Rattle.cif_checks.specs.Checks.{first_fault}
use Rattle.cif_nets.specs.CellReads.{cell_reads}
use Rattle.cif_nets.proofs.reads.check_cells.Given as goal

abbrev pub invariant-loop-cell : goal.invariant-loop-cell
invariant-loop-cell l = first_fault (cell_reads l.nets) (drop l.cell-index l.cells) ≡ first_fault (cell_reads l.nets) l.cells
