use Rattle.std.specs.Prelude.{◌-◌}
use Rattle.std.proofs.Common.{arith}
use Rattle.word_choices.proofs.ShiftShadows.{right_stage, start_shadow}
use Rattle.word_choices.proofs.OffsetShadows.{far_stage, far_start, two_way_end, two_way_exact}
use Rattle.word_choices.proofs.shift_taints.two_way_taint.Goals as goal

pub loop-place-init : goal.loop-place-init
loop-place-init c = (
  start_shadow c.shown_width-width.result c.args.shift.a c.args.shift.b c.args.shift.a_signed c.args.a c.args.b c.extended-near.result c.args.shift.some_a c.extended-near.ensures.value c.extended-near.ensures.taint c.extended-near.ensures.within,
  far_start c.args.shift.y c.args.shift.a c.args.shift.b (c.args.shift.b - 1) c.args.shift.a_signed c.args.a c.args.b c.extended-start.result c.moved_up-far.result
      (start_shadow c.args.shift.y c.args.shift.a c.args.shift.b c.args.shift.a_signed c.args.a c.args.b c.extended-start.result c.args.shift.some_a c.extended-start.ensures.value c.extended-start.ensures.taint c.extended-start.ensures.within)
      c.moved_up-far.ensures.value c.moved_up-far.ensures.taint c.moved_up-far.ensures.within,
)

pub loop-place-preserved : goal.loop-place-preserved
loop-place-preserved c = (
  right_stage c.shown_width-width.result c.args.shift.a c.args.shift.b (c.args.shift.b - 1) c.loop-place.place c.step-by.result c.args.shift.a_signed c.args.a c.args.b c.loop-place.near c.moved_down-down.result c.chosen_at-near.result
      c.shown_width-width.ensures.some c.shown_width-width.ensures.limit (omega (arith, c.loop-place-test.true)) (omega arith) c.step-by.ensures c.loop-place.invariant.0 c.moved_down-down.ensures.value c.moved_down-down.ensures.taint c.moved_down-down.ensures.within c.chosen_at-near.ensures,
  far_stage c.args.shift.y c.args.shift.a c.args.shift.b (c.args.shift.b - 1) c.loop-place.place c.step-by.result c.args.shift.a_signed c.args.a c.args.b c.loop-place.far c.moved_up-up.result c.chosen_at-far.result
      c.args.shift.some_y c.args.shift.limit_y (omega (arith, c.loop-place-test.true)) (omega arith) c.step-by.ensures c.loop-place.invariant.1 c.moved_up-up.ensures.value c.moved_up-up.ensures.taint c.moved_up-up.ensures.within c.chosen_at-far.ensures,
)

pub returns-clause-word : goal.returns-clause-word
returns-clause-word c =
    two_way_exact c.args.shift.y c.args.shift.a c.args.shift.b c.shown_width-width.result (c.args.shift.b - 1) c.args.shift.a_signed c.args.shift.b_signed c.args.a c.args.b c.chosen_at.result c.requires.signed c.shown_width-width.ensures.value (omega (arith, c.args.shift.some_b))
    (two_way_end c.args.shift.y c.args.shift.a c.args.shift.b c.shown_width-width.result (c.args.shift.b - 1) c.loop-place.place c.args.shift.a_signed c.args.a c.args.b c.loop-place.near c.cut-low.result c.loop-place.far c.chosen_at.result
    c.args.shift.some_y c.args.shift.limit_y c.shown_width-width.ensures.some c.shown_width-width.ensures.limit c.shown_width-width.ensures.value (omega (arith, c.args.shift.some_b)) (omega (arith, c.loop-place-test.false, c.loop-place.auto.place-end))
    c.loop-place.invariant.0 c.cut-low.ensures.value c.cut-low.ensures.taint c.cut-low.ensures.within c.loop-place.invariant.1 c.chosen_at.ensures)

pub returns-clause-fits : goal.returns-clause-fits
returns-clause-fits c = (c.chosen_at.ensures.within c.args.shift.y c.cut-low.ensures.within c.loop-place.invariant.1.within).taint
