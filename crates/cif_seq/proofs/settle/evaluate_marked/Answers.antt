use Rattle.std.proofs.Common.{refl, ◌∙◌}
use Rattle.cif_seq.specs.Cases.{net_of}
use Rattle.cif_readers.proofs.NoteLaws.{notes_join}
use Rattle.cif_seq.proofs.settle.evaluate_marked.Goals as goal

pub loop-place-preserved : goal.loop-place-preserved
loop-place-preserved c = record {
  as_many_values = c.evaluate_marked_cell.ensures.values_length ∙ c.loop-place.invariant.as_many_values;
  as_many_taints = c.evaluate_marked_cell.ensures.taints_length ∙ c.loop-place.invariant.as_many_taints;
  as_many_marks = c.evaluate_marked_cell.ensures.marks_length ∙ c.loop-place.invariant.as_many_marks;
  shown = λ covered input taint_input k h. c.in_ok-evaluate_marked_cell.ensures.shown refl covered c.args.cells.now c.loop-place.place input taint_input k c.loop-place-test.true refl (c.loop-place.invariant.shown covered input taint_input k h);
  notes = notes_join (net_of c.args.case.now) _ _ _ _ _ _ _ _ _ c.loop-place.invariant.notes (c.in_ok-evaluate_marked_cell.ensures.notes refl);
}
