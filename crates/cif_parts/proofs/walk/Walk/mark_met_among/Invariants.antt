use Rattle.cif_defs.specs.Accepted.{netlist_of}
use Rattle.cif_parts.specs.Marking.{Adds}
use Rattle.cif_parts.specs.Walks.{IsMetAmong}
use Rattle.cif_parts.proofs.walk.Walk.mark_met_among.Given as goal

abbrev pub invariant-loop-source : goal.invariant-loop-source
invariant-loop-source l = Adds l.fn.marks l.marks (IsMetAmong l.self (netlist_of l.netlist) l.sources l.source-index)
