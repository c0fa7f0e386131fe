use Rattle.std.proofs.Common.{◌≡◌, drop}
use Rattle.cif_nets.specs.Reads.{first_bad}
use Rattle.cif_nets.proofs.reads.first_bad.Given as goal

abbrev pub invariant-loop-index : goal.invariant-loop-index
invariant-loop-index l = first_bad l.nets l.index (drop l.index l.bits) ≡ first_bad l.nets 0 l.bits
