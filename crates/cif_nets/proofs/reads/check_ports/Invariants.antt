use Rattle.std.proofs.Common.{◌≡◌, drop}
use Rattle.std.specs.List.{filter}
use Rattle.cif_defs.specs.Accepted.{is_output}
use Rattle.cif_checks.specs.Checks.{first_fault, shown_fault}
use Rattle.cif_nets.proofs.reads.check_ports.Given as goal

abbrev pub invariant-loop-port : goal.invariant-loop-port
invariant-loop-port l = first_fault (shown_fault l.nets) (filter is_output (drop l.port-index l.ports)) ≡ first_fault (shown_fault l.nets) (filter is_output l.ports)
