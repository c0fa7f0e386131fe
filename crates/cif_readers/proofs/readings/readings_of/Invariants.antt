use Rattle.std.proofs.Common.{[]}
use Rattle.cif_readers.specs.Readings.{Gathers, IsAmongCells}
use Rattle.cif_readers.proofs.readings.readings_of.Given as goal

abbrev pub invariant-loop-place : goal.invariant-loop-place
invariant-loop-place l = Gathers [] l.readings.items (IsAmongCells l.cells l.place)
