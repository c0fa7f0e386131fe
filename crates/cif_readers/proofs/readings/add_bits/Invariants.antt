use Rattle.cif_readers.specs.Readings.{Gathers, IsAmongBits}
use Rattle.cif_readers.proofs.readings.add_bits.Given as goal

abbrev pub invariant-loop-source : goal.invariant-loop-source
invariant-loop-source l = Gathers l.fn.readings.items l.readings.items (IsAmongBits l.cell l.sources l.source-index)
