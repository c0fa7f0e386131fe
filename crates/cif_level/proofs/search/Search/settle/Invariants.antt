use Rattle.std.proofs.Common.{◌≢◌}
use Rattle.cif_defs.specs.Accepted.{netlist_of}
use Rattle.cif_level.specs.declared.feeders.Mark.TheVariants.{Unseen}
use Rattle.cif_level.specs.Searching.{mark_of, work_left, Keeps, Follows}
use Rattle.cif_level.proofs.search.Search.settle.Given as goal

abbrev pub invariant-loop-cell : goal.invariant-loop-cell
invariant-loop-cell l = record {
  keeps : Keeps (netlist_of l.netlist) l.self;
  seen : mark_of l.self.marks.items l.start ≢ Unseen;
  follows : Follows l.fn.self.marks.items l.self.marks.items;
}

abbrev pub decreases-loop-cell : goal.decreases-loop-cell
decreases-loop-cell l = work_left l.self
