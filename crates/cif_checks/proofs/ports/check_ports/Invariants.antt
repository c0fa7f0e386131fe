use Rattle.std.proofs.Common.{◌≡◌, [], drop}
use Rattle.cif_checks.specs.Checks.{ports_fault_from}
use Rattle.cif_checks.proofs.ports.check_ports.Given as goal

abbrev pub invariant-loop-port : goal.invariant-loop-port
invariant-loop-port l = ports_fault_from l.seen.keys (drop l.port-index l.port-items) ≡ ports_fault_from [] l.raw.ports
