use Rattle.cif_seq.specs.Cases.{net_of}
use Rattle.cif_parts.specs.Running.{AreClear, AreIn, HavePlaces}
use Rattle.cif_parts.proofs.run.first_words.Given as goal

abbrev pub invariant-loop-place : goal.invariant-loop-place
invariant-loop-place l = record {
  places : HavePlaces (net_of l.case) l.stored;
  clear : AreClear (net_of l.case) l.stored;
  words : AreIn (net_of l.case) l.case.stimulus 0 l.needed l.place l.stored;
}
