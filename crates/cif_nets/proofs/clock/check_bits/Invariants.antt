use Rattle.std.proofs.Common.{◌≡◌, drop}
use Rattle.cif_checks.specs.Checks.{first_fault, uses_from}
use Rattle.cif_nets.specs.Clocks.{edge_fault}
use Rattle.cif_nets.proofs.clock.check_bits.Given as goal

abbrev pub invariant-loop-index : goal.invariant-loop-index
invariant-loop-index l = first_fault (edge_fault l.ports l.wanted.edge) (uses_from l.cell l.role l.index (drop l.index l.bits)) ≡ first_fault (edge_fault l.ports l.wanted.edge) (uses_from l.cell l.role 0 l.bits)
