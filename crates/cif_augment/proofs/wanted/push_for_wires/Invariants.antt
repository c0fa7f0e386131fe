use Rattle.std.proofs.Common.{◌≡◌, ◌++◌, drop}
use Rattle.std.specs.List.{flat_map}
use Rattle.cif_defs.specs.Accepted.{netlist_of}
use Rattle.cif_augment.specs.Taken.{wanted_for_wire}
use Rattle.cif_augment.proofs.wanted.push_for_wires.Given as goal

abbrev pub invariant-loop-port : goal.invariant-loop-port
invariant-loop-port l = l.names.items ++ flat_map (wanted_for_wire (netlist_of l.netlist)) (drop l.port-index l.ports) ≡ l.initial.names.items ++ flat_map (wanted_for_wire (netlist_of l.netlist)) l.ports
