use Rattle.std.proofs.Common.{◌∙◌, ◌≡◌, [], arith, get_or, length, map, sym}
use Rattle.std.proofs.lemmas.List.{get_or_default}
use Rattle.cif_readers.proofs.NoteLaws.{notes_join}
use Rattle.word_numbers.specs.HeldWords.{words_held}
use Rattle.cif_writes.proofs.HeldOutputs.{held_output, narrow_output}
use Rattle.cif_writes.proofs.PutWords.{put_words_next}
use Rattle.cif_writes.proofs.write.write_numbers.Goals as goal

pub write_number-requires-clause-few : goal.write_number-requires-clause-few
write_number-requires-clause-few c = narrow_output c.args.outputs.now c.loop-port.port _ c.requires.narrow (c.items.ensures ∙ c.index-outputs-port.is ∙ get_or_default c.args.outputs.now c.loop-port.port c.index-outputs-port.result [] c.loop-port-test.true)

pub loop-port-preserved : goal.loop-port-preserved
loop-port-preserved c =
    let out : c.items.result.now ≡ get_or c.args.outputs.now c.loop-port.port [] = c.items.ensures ∙ c.index-outputs-port.is ∙ get_or_default c.args.outputs.now c.loop-port.port c.index-outputs-port.result [] c.loop-port-test.true in
    let value = held_output c.args.outputs.now c.args.words.now c.loop-port.port _ _ c.requires.few c.loop-port-test.true out c.port_number-word.ensures in
    let taint = held_output c.args.outputs.now c.args.word_taints.now c.loop-port.port _ _ c.requires.few c.loop-port-test.true out c.port_number-word_taint.ensures in
    record {
      as_many = c.write_number.ensures.taints_length ∙ c.loop-port.invariant.as_many ∙ sym c.write_number.ensures.values_length;
      values_length = c.write_number.ensures.values_length ∙ c.loop-port.invariant.values_length;
      marks_length = c.write_number.ensures.marks_length ∙ c.loop-port.invariant.marks_length;
      values = put_words_next [] c.args.outputs.now (words_held (map length c.args.outputs.now) c.args.words.now) c.loop-port.values _ _ _ _ _ c.loop-port-test.true out value c.write_number.ensures.values c.loop-port.invariant.values;
      taints = put_words_next c.args.released.now c.args.outputs.now (words_held (map length c.args.outputs.now) c.args.word_taints.now) c.loop-port.taints _ _ _ _ _ c.loop-port-test.true out taint c.write_number.ensures.taints c.loop-port.invariant.taints;
      notes = λ n r l. notes_join n _ _ _ _ _ _ _ _ _ (c.loop-port.invariant.notes n r l) (c.write_number.ensures.notes n r (omega (arith, c.loop-port.invariant.marks_length)));
    }
