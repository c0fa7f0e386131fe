use Rattle.std.proofs.Common.{◌∙◌, [], arith, sym}
use Rattle.cif_readers.proofs.NoteLaws.{notes_join}
use Rattle.cif_writes.proofs.PutWords.{put_word_next}
use Rattle.cif_writes.proofs.write.write_word.Goals as goal

pub loop-i-preserved : goal.loop-i-preserved
loop-i-preserved c = record {
  as_many = c.write_target.ensures.taints_length ∙ c.loop-i.invariant.as_many ∙ sym c.write_target.ensures.values_length;
  values_length = c.write_target.ensures.values_length ∙ c.loop-i.invariant.values_length;
  marks_length = c.write_target.ensures.marks_length ∙ c.loop-i.invariant.marks_length;
  values = put_word_next [] c.args.targets.now c.args.word.now c.loop-i.values _ _ _ _ c.loop-i-test.true c.bit_of-value_bit.ensures c.write_target.ensures.values c.loop-i.invariant.values;
  taints = put_word_next c.args.released.now c.args.targets.now c.args.taint.now c.loop-i.taints _ _ _ _ c.loop-i-test.true c.bit_of-taint_bit.ensures c.write_target.ensures.taints c.loop-i.invariant.taints;
  notes = λ n r l. notes_join n _ _ _ _ _ _ _ _ _ (c.loop-i.invariant.notes n r l) (c.write_target.ensures.notes n r (omega (arith, c.loop-i.invariant.marks_length)));
}
