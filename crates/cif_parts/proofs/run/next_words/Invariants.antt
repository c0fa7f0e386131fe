use Rattle.std.proofs.Common.{◌≡◌, length}
use Rattle.cif_defs.specs.Accepted.{netlist_of}
use Rattle.cif_seq.specs.Stored.{given_of}
use Rattle.cif_parts.specs.Running.{AreClear, AreMoved, HavePlaces}
use Rattle.cif_parts.proofs.run.next_words.Given as goal

abbrev pub invariant-loop-place : goal.invariant-loop-place
invariant-loop-place l = record {
  places : HavePlaces (netlist_of l.netlist) l.stored;
  clear : AreClear (netlist_of l.netlist) l.stored;
  marks : length l.marks.items ≡ length (netlist_of l.netlist).cells;
  moved : AreMoved (netlist_of l.netlist) (given_of l.held.stored.now) (given_of l.stored) l.held.values.now l.held.taints.now l.marks.items l.needed l.place;
}
