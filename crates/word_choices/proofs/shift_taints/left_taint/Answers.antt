use Rattle.std.proofs.Common.{arith}
use Rattle.word_choices.proofs.ShiftShadows.{left_end, left_stage, start_shadow}
use Rattle.word_choices.proofs.shift_taints.left_taint.Goals as goal

pub loop-place-init : goal.loop-place-init
loop-place-init c =
    start_shadow c.args.shift.y c.args.shift.a c.args.shift.b c.args.shift.a_signed c.args.a c.args.b c.extended-word.result c.args.shift.some_a c.extended-word.ensures.value c.extended-word.ensures.taint c.extended-word.ensures.within

pub loop-place-preserved : goal.loop-place-preserved
loop-place-preserved c =
    left_stage c.args.shift.y c.args.shift.a c.args.shift.b c.loop-place.place c.step.result c.args.shift.a_signed c.args.a c.args.b c.loop-place.word c.moved_up-moved.result c.chosen_at-word.result
    c.args.shift.some_y c.args.shift.limit_y (omega (arith, c.loop-place-test.true)) c.step.ensures c.loop-place.invariant c.moved_up-moved.ensures.value c.moved_up-moved.ensures.taint c.moved_up-moved.ensures.within c.chosen_at-word.ensures

pub returns-clause-word : goal.returns-clause-word
returns-clause-word c = left_end c.args.shift.y c.args.shift.a c.args.shift.b c.loop-place.place c.args.shift.a_signed c.args.a c.args.b c.loop-place.word (omega (arith, c.loop-place-test.false, c.loop-place.auto.place-end)) c.loop-place.invariant

pub returns-clause-fits : goal.returns-clause-fits
returns-clause-fits c = c.loop-place.invariant.within.taint
