use Rattle.cif_readers.proofs.MarkLaws.{AreMarked}
use Rattle.cif_readers.proofs.marks.mark_cells.Given as goal

abbrev pub invariant-loop-cell : goal.invariant-loop-cell
invariant-loop-cell l = AreMarked l.cells l.cell-index l.fn.marks l.marks
