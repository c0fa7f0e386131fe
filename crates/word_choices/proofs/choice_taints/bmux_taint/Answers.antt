use Rattle.std.specs.Prelude.{◌*◌, ◌^◌, ◌-◌, ◌≡◌, ◌<◌, suc}
use Rattle.std.proofs.Common.{arith, ap, subst, ◌∙◌}
use Rattle.word_choices.specs.Shadows.{IsChosen}
use Rattle.cif_defs.specs.Words.{digit}
use Rattle.word_choices.proofs.ChoiceShadows.{bmux_end, bmux_last, bmux_start, half_stage}
use Rattle.word_choices.proofs.choice_taints.bmux_taint.Goals as goal

pub loop-done-init : goal.loop-done-init
loop-done-init c = bmux_start c.args.blocks.width c.args.blocks.selects c.args.a c.args.s c.requires.a_within

pub loop-done-preserved : goal.loop-done-preserved
loop-done-preserved c =
    let inside : c.loop-done.done < c.args.blocks.selects = omega (arith, c.loop-done-test.true) in
    let place : c.args.blocks.selects - 1 - c.loop-done.done ≡ c.args.blocks.selects - suc c.loop-done.done = omega arith in
    half_stage c.args.blocks.width c.args.blocks.selects (c.args.blocks.width * 2 ^ c.args.blocks.selects) c.loop-done.done c.half_bits-half.result c.args.a c.args.s c.loop-done.word c.cut-zero.result c.cut-one.result c.chosen_at-word.result
    c.args.blocks.some c.args.blocks.limit inside (c.half_bits-half.ensures.value ∙ ap (λ k. c.args.blocks.width * 2 ^ k) place) c.loop-done.invariant
    c.cut-zero.ensures.value c.cut-zero.ensures.taint c.cut-zero.ensures.within c.cut-one.ensures.value c.cut-one.ensures.taint c.cut-one.ensures.within
    (subst (λ k. IsChosen c.cut-zero.result c.cut-one.result (digit c.args.s.value k) (digit c.args.s.taint k) c.chosen_at-word.result) place c.chosen_at-word.ensures)

pub returns-clause-word : goal.returns-clause-word
returns-clause-word c =
    bmux_end c.args.blocks.width c.args.blocks.selects (c.args.blocks.width * 2 ^ c.args.blocks.selects) c.loop-done.done c.args.a c.args.s c.loop-done.word (omega (arith, c.loop-done-test.false, c.loop-done.auto.done-end)) c.loop-done.invariant

pub returns-clause-fits : goal.returns-clause-fits
returns-clause-fits c = (bmux_last c.args.blocks.width c.args.blocks.selects c.loop-done.done _ _ c.loop-done.word (omega (arith, c.loop-done-test.false, c.loop-done.auto.done-end)) c.loop-done.invariant).within.taint
