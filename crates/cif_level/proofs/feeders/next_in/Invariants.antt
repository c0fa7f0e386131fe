use Rattle.cif_defs.specs.Accepted.{netlist_of}
use Rattle.cif_level.specs.Searching.{ArePlaced}
use Rattle.cif_level.proofs.feeders.next_in.Given as goal

abbrev pub invariant-loop-index : goal.invariant-loop-index
invariant-loop-index l = ArePlaced (netlist_of l.netlist) l.marks l.sources l.from l.index
