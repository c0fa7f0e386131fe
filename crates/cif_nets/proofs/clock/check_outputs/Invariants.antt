use Rattle.std.proofs.Common.{◌≡◌, drop}
use Rattle.std.specs.List.{filter}
use Rattle.cif_defs.specs.Accepted.{is_output}
use Rattle.cif_checks.specs.Checks.{first_fault}
use Rattle.cif_nets.specs.Clocks.{port_fault}
use Rattle.cif_nets.proofs.clock.check_outputs.Given as goal

abbrev pub invariant-loop-port : goal.invariant-loop-port
invariant-loop-port l = first_fault (port_fault l.number) (filter is_output (drop l.port-index l.ports)) ≡ first_fault (port_fault l.number) (filter is_output l.ports)
