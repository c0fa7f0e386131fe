use Rattle.std.proofs.Common.{◌≡◌, ◌&&◌, drop}
use Rattle.std.specs.List.{list_any}
use Rattle.cif_defs.specs.Accepted.{is_input}
use Rattle.cif_defs.specs.declared.raw_module.RawPort.{RawPort}
use Rattle.cif_checks.specs.Checks.{is_only_bit}
use Rattle.cif_nets.proofs.clock.is_clock_input.Given as goal

abbrev pub invariant-loop-port : goal.invariant-loop-port
invariant-loop-port l = list_any (λ (p : RawPort). is_input p && is_only_bit l.number p.bits) (drop l.port-index l.ports) ≡ list_any (λ (p : RawPort). is_input p && is_only_bit l.number p.bits) l.ports
