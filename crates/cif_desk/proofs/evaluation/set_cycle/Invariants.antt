use Rattle.std.proofs.Common.{◌≡◌, ◌++◌, take}
use Rattle.std.specs.List.{flat_map}
use Rattle.cif_defs.specs.EvalText.{cycle_head, port_line}
use Rattle.cif_seq.specs.Cases.{net_of}
use Rattle.cif_desk.proofs.evaluation.set_cycle.Given as goal

abbrev pub invariant-loop-port : goal.invariant-loop-port
invariant-loop-port l = l.text.items ≡ cycle_head l.frame.cycle ++ flat_map (port_line (net_of l.frame.case) l.frame.case.stimulus l.frame.cycle) (take l.port-index l.port-items)
