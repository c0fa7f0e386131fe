use Rattle.cif_defs.specs.Accepted.{netlist_of}
use Rattle.cif_parts.specs.Marking.{Adds}
use Rattle.cif_parts.specs.Walks.{IsMetBefore}
use Rattle.cif_parts.proofs.walk.Walk.mark_met_from.Given as goal

abbrev pub invariant-loop-port : goal.invariant-loop-port
invariant-loop-port l = Adds l.fn.marks l.marks (IsMetBefore l.self (netlist_of l.netlist) l.number l.port)
