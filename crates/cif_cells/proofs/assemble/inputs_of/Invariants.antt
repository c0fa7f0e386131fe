use Rattle.std.proofs.Common.{◌≡◌, ◌++◌, map, drop}
use Rattle.std.specs.List.{filter}
use Rattle.cif_defs.specs.Accepted.{is_input, wire_of}
use Rattle.cif_cells.proofs.assemble.inputs_of.Given as goal

abbrev pub invariant-loop-port : goal.invariant-loop-port
invariant-loop-port l = l.wires.items ++ map (wire_of l.numbers) (filter is_input (drop l.port-index l.ports)) ≡ map (wire_of l.numbers) (filter is_input l.ports)
