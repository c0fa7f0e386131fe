use Rattle.std.proofs.Common.{◌≡◌, map, take}
use Rattle.cif_cells.specs.Wires.{wire_of_name}
use Rattle.cif_cells.proofs.finding.wires_of_names.Given as goal

abbrev pub invariant-loop-name : goal.invariant-loop-name
invariant-loop-name l = l.wires.items ≡ map (wire_of_name l.nets) (take l.name-index l.names)
