use Rattle.std.proofs.Common.{◌≡◌, drop}
use Rattle.cif_checks.specs.Checks.{reads_number}
use Rattle.cif_nets.proofs.clock.holds.Given as goal

abbrev pub invariant-loop-bit : goal.invariant-loop-bit
invariant-loop-bit l = reads_number l.number (drop l.bit-index l.bits) ≡ reads_number l.number l.bits
