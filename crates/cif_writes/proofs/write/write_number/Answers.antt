use Rattle.std.proofs.Common.{◌∙◌, [], arith, false, length, sym}
use Rattle.cif_defs.specs.Words.{word_of}
use Rattle.cif_readers.proofs.NoteLaws.{notes_join}
use Rattle.word_numbers.proofs.Digits.{bit-held_by}
use Rattle.cif_writes.proofs.PutWords.{put_word_next}
use Rattle.cif_writes.proofs.write.write_number.Goals as goal

pub loop-i-preserved : goal.loop-i-preserved
loop-i-preserved c =
    let n = length c.args.targets.now in
    let value = c.bit-value_bit.ensures ∙ sym (bit-held_by n c.args.number c.loop-i.i false c.loop-i-test.true) in
    let taint = c.bit-taint_bit.ensures ∙ sym (bit-held_by n c.args.taint c.loop-i.i false c.loop-i-test.true) in
    record {
      as_many = c.write_target.ensures.taints_length ∙ c.loop-i.invariant.as_many ∙ sym c.write_target.ensures.values_length;
      values_length = c.write_target.ensures.values_length ∙ c.loop-i.invariant.values_length;
      marks_length = c.write_target.ensures.marks_length ∙ c.loop-i.invariant.marks_length;
      values = put_word_next [] c.args.targets.now (word_of n c.args.number) c.loop-i.values _ _ _ _ c.loop-i-test.true value c.write_target.ensures.values c.loop-i.invariant.values;
      taints = put_word_next c.args.released.now c.args.targets.now (word_of n c.args.taint) c.loop-i.taints _ _ _ _ c.loop-i-test.true taint c.write_target.ensures.taints c.loop-i.invariant.taints;
      notes = λ n r l. notes_join n _ _ _ _ _ _ _ _ _ (c.loop-i.invariant.notes n r l) (c.write_target.ensures.notes n r (omega (arith, c.loop-i.invariant.marks_length)));
    }
