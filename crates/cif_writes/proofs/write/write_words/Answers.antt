use Rattle.std.proofs.Common.{◌∙◌, ◌≡◌, [], arith, get_or, sym}
use Rattle.std.proofs.lemmas.List.{get_or_default}
use Rattle.cif_readers.proofs.NoteLaws.{notes_join}
use Rattle.cif_writes.proofs.PutWords.{put_words_next}
use Rattle.cif_writes.proofs.write.write_words.Goals as goal

pub loop-port-preserved : goal.loop-port-preserved
loop-port-preserved c =
    let out : c.items.result.now ≡ get_or c.args.outputs.now c.loop-port.port [] = c.items.ensures ∙ c.index-outputs-port.is ∙ get_or_default c.args.outputs.now c.loop-port.port c.index-outputs-port.result [] c.loop-port-test.true in
    record {
      as_many = c.write_word.ensures.taints_length ∙ c.loop-port.invariant.as_many ∙ sym c.write_word.ensures.values_length;
      values_length = c.write_word.ensures.values_length ∙ c.loop-port.invariant.values_length;
      marks_length = c.write_word.ensures.marks_length ∙ c.loop-port.invariant.marks_length;
      values = put_words_next [] c.args.outputs.now c.args.words.now c.loop-port.values _ _ _ _ _ c.loop-port-test.true out c.port_bits-word.ensures c.write_word.ensures.values c.loop-port.invariant.values;
      taints = put_words_next c.args.released.now c.args.outputs.now c.args.word_taints.now c.loop-port.taints _ _ _ _ _ c.loop-port-test.true out c.port_bits-word_taint.ensures c.write_word.ensures.taints c.loop-port.invariant.taints;
      notes = λ n r l. notes_join n _ _ _ _ _ _ _ _ _ (c.loop-port.invariant.notes n r l) (c.write_word.ensures.notes n r (omega (arith, c.loop-port.invariant.marks_length)));
    }
