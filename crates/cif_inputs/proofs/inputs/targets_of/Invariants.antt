use Rattle.std.proofs.Common.{◌≡◌, map, take}
use Rattle.cif_defs.specs.Accepted.{netlist_of}
use Rattle.cif_stimulus.specs.Names.{target_of}
use Rattle.cif_inputs.proofs.inputs.targets_of.Given as goal

abbrev pub invariant-loop-number : goal.invariant-loop-number
invariant-loop-number l = l.targets.items ≡ map (target_of (netlist_of l.netlist).inputs) (take l.number l.stimulus.lines)
