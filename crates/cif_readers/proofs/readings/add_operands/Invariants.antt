use Rattle.cif_readers.specs.Readings.{Gathers, IsAmongOperands}
use Rattle.cif_readers.proofs.readings.add_operands.Given as goal

abbrev pub invariant-loop-sources : goal.invariant-loop-sources
invariant-loop-sources l = Gathers l.fn.readings.items l.readings.items (IsAmongOperands l.cell l.operands l.sources-index)
