use Rattle.std.specs.Prelude.{◌*◌, ◌-◌, ◌<◌, ◌≡◌, suc, refl}
use Rattle.std.proofs.Common.{arith}
use Rattle.word_choices.proofs.ChainShadows.{chain_end, chain_stage, chain_start}
use Rattle.word_choices.proofs.choice_taints.pmux_taint.Goals as goal

pub loop-done-init : goal.loop-done-init
loop-done-init c = chain_start c.args.chain.width c.args.chain.selects c.args.a c.args.b c.args.s c.requires.a_within

pub loop-done-preserved : goal.loop-done-preserved
loop-done-preserved c =
    let inside : c.loop-done.done < c.args.chain.selects = omega (arith, c.loop-done-test.true) in
    let place : c.args.chain.selects - 1 - c.loop-done.done ≡ c.args.chain.selects - suc c.loop-done.done = omega arith in
    chain_stage c.args.chain.width c.args.chain.selects c.loop-done.done (c.args.chain.selects - 1 - c.loop-done.done) ((c.args.chain.selects - 1 - c.loop-done.done) * c.args.chain.width) c.args.a c.args.b c.args.s c.loop-done.word c.block-block.result c.chosen_at-word.result
    inside place refl c.loop-done.invariant c.block-block.ensures.value c.block-block.ensures.taint c.block-block.ensures.within c.chosen_at-word.ensures

pub returns-clause-word : goal.returns-clause-word
returns-clause-word c =
    chain_end c.args.chain.width c.args.chain.selects c.loop-done.done c.args.a c.args.b c.args.s c.loop-done.word (omega (arith, c.loop-done-test.false, c.loop-done.auto.done-end)) c.loop-done.invariant

pub returns-clause-fits : goal.returns-clause-fits
returns-clause-fits c = c.loop-done.invariant.within.taint
