use Rattle.std.specs.Prelude.{refl}
use Rattle.std.proofs.Common.{arith}
use Rattle.word_choices.proofs.ChoiceShadows.{block_stage, demux_end, demux_last, demux_start}
use Rattle.word_choices.proofs.choice_taints.demux_taint.Goals as goal

pub loop-place-init : goal.loop-place-init
loop-place-init c = demux_start c.args.blocks.width c.args.blocks.selects c.args.a c.args.s c.requires.a_within

pub loop-place-preserved : goal.loop-place-preserved
loop-place-preserved c =
    block_stage c.args.blocks.width c.args.blocks.selects c.loop-place.place c.half_bits-half.result c.half_bits-half.result c.args.a c.args.s c.loop-place.word c.moved_up-upper.result c.chosen_at-word.result
    c.args.blocks.some c.args.blocks.limit (omega (arith, c.loop-place-test.true)) c.half_bits-half.ensures.value refl c.loop-place.invariant
    c.moved_up-upper.ensures.value c.moved_up-upper.ensures.taint c.moved_up-upper.ensures.within c.chosen_at-word.ensures

pub returns-clause-word : goal.returns-clause-word
returns-clause-word c =
    demux_end c.args.blocks.width c.args.blocks.selects c.loop-place.place c.args.a c.args.s c.loop-place.word c.args.blocks.some (omega (arith, c.loop-place-test.false, c.loop-place.auto.place-end)) c.loop-place.invariant

pub returns-clause-fits : goal.returns-clause-fits
returns-clause-fits c =
    (demux_last c.args.blocks.width c.args.blocks.selects c.loop-place.place _ _ c.loop-place.word (omega (arith, c.loop-place-test.false, c.loop-place.auto.place-end)) c.loop-place.invariant).within.taint
