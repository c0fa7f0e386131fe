use Rattle.std.proofs.Common.{sym, ◌∙◌}
use Rattle.cif_meanings.proofs.MeaningLaws.{answered}
use Rattle.cif_meanings.proofs.ShiftLaws.{shift_up, shift_down}
use Rattle.cif_meanings.proofs.meanings.shifts.shift_word.Goals as goal

pub returns-then-is_negative : goal.returns-then-is_negative
returns-then-is_negative c =
    answered _ _ _
    (shift_up _ _ c.args.b_signed _ c.args.b.now _ _ c.in_ok-wide.ensures c.below_zero.ensures (sym c.is_negative.ensures ∙ c.if-is_negative.true))
    c.moved_up.ensures

pub returns : goal.returns
returns c =
    answered _ _ _
    (shift_down _ _ c.args.b_signed _ c.args.b.now _ _ c.in_ok-wide.ensures c.to_u128.ensures.value (sym c.is_negative.ensures ∙ c.if-is_negative.false))
    c.moved_down.ensures
