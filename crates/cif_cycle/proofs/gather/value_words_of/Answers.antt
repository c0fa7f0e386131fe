-- One more word at each turn; no operand is too wide for one.
use Rattle.std.proofs.Common.{◌∙◌, ap}
use Rattle.cif_defs.specs.Words.{bit}
use Rattle.cif_defs.specs.Run.{src_word}
use Rattle.cif_cycle.proofs.Gathered.{values_push}
use Rattle.cif_cycle.proofs.SourceWords.{narrow_word}
use Rattle.cif_cycle.proofs.gather.value_words_of.Goals as goal

pub of-requires : goal.of-requires
of-requires c = narrow_word (bit c.args.values.now) c.args.operands.now c.loop-sources.sources-index c.sources-item.result c.items.result.now _ c.requires c.loop-sources-test.true c.sources-item.is c.items.ensures c.in_ok-bits.ensures

pub loop-sources-preserved : goal.loop-sources-preserved
loop-sources-preserved c =
    values_push (bit c.args.values.now) c.args.operands.now c.loop-sources.sources-index c.sources-item.result c.loop-sources.words.items c.push.new.self.items c.of.result
    c.loop-sources-test.true c.loop-sources.invariant c.in_ok-push.ensures.items (c.of.ensures ∙ c.in_ok-bits.ensures ∙ ap (src_word (bit c.args.values.now)) (c.items.ensures ∙ c.sources-item.is))
