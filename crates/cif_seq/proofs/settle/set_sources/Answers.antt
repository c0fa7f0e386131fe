use Rattle.std.proofs.Common.{refl, ◌∙◌}
use Rattle.cif_seq.specs.Cases.{net_of}
use Rattle.cif_readers.proofs.NoteLaws.{nothing_noted, notes_join}
use Rattle.cif_shown.proofs.Begun.{sources_begun, sources_done}
use Rattle.cif_seq.proofs.settle.set_sources.Goals as goal

pub loop-place-init : goal.loop-place-init
loop-place-init c = record {
  as_many_values = refl;
  as_many_taints = refl;
  as_many_marks = refl;
  begun = λ covered cells k h. sources_begun (net_of c.args.case.now) _ _ _ _ _ _ _ c.sources-sources.ensures h;
  notes = nothing_noted (net_of c.args.case.now) _ _ _;
}

pub set_source-requires-clause-inside : goal.set_source-requires-clause-inside
set_source-requires-clause-inside c = c.sources-sources.ensures.inside c.loop-place.place c.loop-place-test.true

pub loop-place-preserved : goal.loop-place-preserved
loop-place-preserved c = record {
  as_many_values = c.set_source.ensures.values_length ∙ c.loop-place.invariant.as_many_values;
  as_many_taints = c.set_source.ensures.taints_length ∙ c.loop-place.invariant.as_many_taints;
  as_many_marks = c.set_source.ensures.marks_length ∙ c.loop-place.invariant.as_many_marks;
  begun = λ covered cells k h. c.set_source.ensures.shown covered cells c.sources-sources.result.now c.loop-place.place k c.sources-sources.ensures c.loop-place-test.true refl (c.loop-place.invariant.begun covered cells k h);
  notes = notes_join (net_of c.args.case.now) _ _ _ _ _ _ _ _ _ c.loop-place.invariant.notes c.set_source.ensures.notes;
}

pub returns-clause-shown : goal.returns-clause-shown
returns-clause-shown c = λ covered cells k h. sources_done (net_of c.args.case.now) _ _ _ _ _ _ _ _ c.loop-place-test.false (c.loop-place.invariant.begun covered cells k h)
