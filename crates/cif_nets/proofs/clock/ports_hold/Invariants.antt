use Rattle.std.proofs.Common.{◌≡◌, drop}
use Rattle.cif_checks.specs.Checks.{reads_number}
use Rattle.cif_checks.specs.Known.{joined}
use Rattle.cif_nets.proofs.clock.ports_hold.Given as goal

abbrev pub invariant-loop-bits : goal.invariant-loop-bits
invariant-loop-bits l = reads_number l.number (joined (drop l.bits-index l.ports)) ≡ reads_number l.number (joined l.ports)
