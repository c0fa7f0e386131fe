use Rattle.std.proofs.Common.{arith}
use Rattle.word_choices.proofs.ShiftShadows.{right_end, right_stage, start_shadow}
use Rattle.word_choices.proofs.shift_taints.right_taint.Goals as goal

pub loop-place-init : goal.loop-place-init
loop-place-init c =
    start_shadow c.shown_width-width.result c.args.shift.a c.args.shift.b c.args.shift.a_signed c.args.a c.args.b c.extended-word.result c.args.shift.some_a c.extended-word.ensures.value c.extended-word.ensures.taint c.extended-word.ensures.within

pub loop-place-preserved : goal.loop-place-preserved
loop-place-preserved c =
    right_stage c.shown_width-width.result c.args.shift.a c.args.shift.b c.args.shift.b c.loop-place.place c.step.result c.args.shift.a_signed c.args.a c.args.b c.loop-place.word c.moved_down-moved.result c.chosen_at-word.result
    c.shown_width-width.ensures.some c.shown_width-width.ensures.limit (omega (arith, c.loop-place-test.true)) (omega arith) c.step.ensures c.loop-place.invariant c.moved_down-moved.ensures.value c.moved_down-moved.ensures.taint c.moved_down-moved.ensures.within c.chosen_at-word.ensures

pub returns-clause-word : goal.returns-clause-word
returns-clause-word c =
    right_end c.args.shift.y c.args.shift.a c.args.shift.b c.shown_width-width.result c.lowest.result c.loop-place.place c.args.shift.a_signed c.args.a c.args.b c.loop-place.word c.shown_width-width.ensures.value
    (omega (arith, c.loop-place-test.false, c.loop-place.auto.place-end)) c.loop-place.invariant c.lowest.ensures.word
