use Rattle.std.proofs.Common.{arith, ◌∙◌}
use Rattle.cif_defs.proofs.WordLaws.{word_push}
use Rattle.cif_cycle.proofs.StateBits.{saturated_bit}
use Rattle.cif_cycle.proofs.stored.StateWord.word.Goals as goal

pub loop-i-preserved : goal.loop-i-preserved
loop-i-preserved c =
    word_push _ _ _ _ _ c.loop-i.invariant c.in_ok-push.ensures.items
    (c.bit.ensures ∙ saturated_bit c.args.self.now c.args.at c.loop-i.i c.from.result c.saturating_add.result c.len-length.result c.len-length.ensures (omega arith) c.from.ensures c.saturating_add.ensures)
