use Rattle.std.proofs.Common.{◌≡◌, ◌++◌, drop}
use Rattle.cif_defs.specs.RawModule.{nets_in}
use Rattle.cif_checks.specs.Known.{joined}
use Rattle.cif_nets.proofs.numbers.push_held.Given as goal

abbrev pub invariant-loop-bits : goal.invariant-loop-bits
invariant-loop-bits l = l.numbers.items ++ nets_in (joined (drop l.bits-index l.ports)) ≡ l.initial.numbers.items ++ nets_in (joined l.ports)
