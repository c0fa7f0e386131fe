use Rattle.std.proofs.Common.{◌≡◌, ℕ, Bool, List, length}
use Rattle.cif_readers.specs.Reads.{Notes}
use Rattle.cif_shown.specs.Shown.{AreBegun, CoverBits, MayBegin}
use Rattle.cif_seq.specs.Cases.{net_of}
use Rattle.cif_seq.specs.GivenAt.{given_at}
use Rattle.cif_seq.proofs.settle.set_sources.Given as goal

abbrev pub invariant-loop-place : goal.invariant-loop-place
invariant-loop-place l = record {
  as_many_values : length l.values ≡ length l.initial.values;
  as_many_taints : length l.taints ≡ length l.initial.taints;
  as_many_marks : length l.marks ≡ length l.initial.marks;
  begun : (covered : ℕ → Bool) (cells : List ℕ) → CoverBits (net_of l.case) l.case.order cells covered → MayBegin covered (net_of l.case) (given_at l.case l.stored l.inputs) cells l.initial.marks l.initial.values l.initial.taints
      → AreBegun covered (net_of l.case) (given_at l.case l.stored l.inputs) cells l.sources l.place l.marks l.values l.taints;
  notes : Notes (net_of l.case) l.initial.values l.initial.taints l.values l.taints l.initial.marks l.marks;
}
