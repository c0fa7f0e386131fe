use Rattle.std.proofs.Common.{◌-◌}
use Rattle.cif_defs.specs.Accepted.{netlist_of}
use Rattle.cif_level.specs.Feeding.{feeder_at}
use Rattle.cif_level.specs.Searching.{AreBefore}
use Rattle.cif_level.proofs.feeders.next_feed.Given as goal

abbrev pub invariant-loop-place : goal.invariant-loop-place
invariant-loop-place l = AreBefore (feeder_at (netlist_of l.netlist) l.cell) l.marks l.place

abbrev pub decreases-loop-place : goal.decreases-loop-place
decreases-loop-place l = l.count - l.place.port
