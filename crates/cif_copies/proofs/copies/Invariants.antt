use Rattle.std.proofs.Common.{◌≡◌, take}
use Rattle.cif_copies.proofs.copies.Given as goal

abbrev pub invariant-loop-thing : goal.invariant-loop-thing
invariant-loop-thing g l = l.found.items ≡ take l.thing-index l.things
