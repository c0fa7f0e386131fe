use Rattle.std.proofs.Common.{◌≤◌, length}
use Rattle.cif_defs.specs.Accepted.{netlist_of}
use Rattle.cif_starts.specs.Starts.{IsTableFrom}
use Rattle.cif_starts.proofs.starts.StartLines.of.Given as goal

abbrev pub invariant-loop-place : goal.invariant-loop-place
invariant-loop-place l = record {
  inside : l.place ≤ length l.stimulus.lines;
  noted : IsTableFrom (netlist_of l.netlist).cells l.stimulus.lines l.place l.table;
}

abbrev pub decreases-loop-place : goal.decreases-loop-place
decreases-loop-place l = l.place
