use Rattle.std.proofs.Common.{length}
use Rattle.cif_enumerate.proofs.differ.+gives_by.Given as goal

abbrev pub decreases-gives_by : goal.decreases-gives_by
decreases-gives_by g l = length l.places.now
