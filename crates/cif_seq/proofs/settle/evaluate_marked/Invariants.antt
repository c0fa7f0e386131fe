use Rattle.std.proofs.Common.{◌≡◌, ℕ, Bool, length}
use Rattle.cif_readers.specs.Reads.{Notes}
use Rattle.cif_shown.specs.Shown.{AreShown, CoverBits}
use Rattle.cif_seq.specs.Cases.{net_of}
use Rattle.cif_seq.specs.GivenAt.{given_with}
use Rattle.cif_seq.proofs.settle.evaluate_marked.Given as goal

abbrev pub invariant-loop-place : goal.invariant-loop-place
invariant-loop-place l = record {
  as_many_values : length l.values ≡ length l.initial.values;
  as_many_taints : length l.taints ≡ length l.initial.taints;
  as_many_marks : length l.marks ≡ length l.initial.marks;
  shown : (covered : ℕ → Bool) (input taint_input : ℕ → ℕ → Bool) → CoverBits (net_of l.case) l.case.order l.cells covered → AreShown covered (net_of l.case) (given_with l.case l.stored input taint_input) l.cells 0 l.initial.marks l.initial.values l.initial.taints
      → AreShown covered (net_of l.case) (given_with l.case l.stored input taint_input) l.cells l.place l.marks l.values l.taints;
  notes : Notes (net_of l.case) l.initial.values l.initial.taints l.values l.taints l.initial.marks l.marks;
}
