use Rattle.cif_defs.specs.Accepted.{netlist_of}
use Rattle.cif_parts.specs.Marking.{Adds}
use Rattle.cif_parts.specs.Walks.{IsMetFrom}
use Rattle.cif_parts.proofs.walk.Walk.mark_met_from_all.Given as goal

abbrev pub invariant-loop-number : goal.invariant-loop-number
invariant-loop-number l = Adds l.fn.marks l.marks (IsMetFrom l.self (netlist_of l.netlist) l.chosen l.number)
