use Rattle.std.proofs.Common.{◌≡◌, map, take}
use Rattle.cif_cells.specs.Wires.{wire_of_port}
use Rattle.cif_cells.proofs.finding.wires_of_ports.Given as goal

abbrev pub invariant-loop-port : goal.invariant-loop-port
invariant-loop-port l = l.wires.items ≡ map (wire_of_port l.nets) (take l.port-index l.ports)
