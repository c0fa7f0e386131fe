use Rattle.std.proofs.Common.{sym, ◌∙◌}
use Rattle.word_choices.proofs.ShiftValues.{right_offset}
use Rattle.word_choices.proofs.shifts.offset_value.Goals as goal

pub returns-else-is_negative-clause-word : goal.returns-else-is_negative-clause-word
returns-else-is_negative-clause-word c =
    c.right_value.ensures.word ∙ sym (right_offset c.args.shift.y c.args.shift.a_signed c.args.shift.b_signed _ _ (sym c.is_negative.ensures ∙ c.if-is_negative.false))
