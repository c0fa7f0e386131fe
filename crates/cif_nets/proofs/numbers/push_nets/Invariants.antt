use Rattle.std.proofs.Common.{◌≡◌, ◌++◌, drop}
use Rattle.cif_defs.specs.RawModule.{nets_in}
use Rattle.cif_nets.proofs.numbers.push_nets.Given as goal

abbrev pub invariant-loop-bit : goal.invariant-loop-bit
invariant-loop-bit l = l.numbers.items ++ nets_in (drop l.bit-index l.bits) ≡ l.initial.numbers.items ++ nets_in l.bits
