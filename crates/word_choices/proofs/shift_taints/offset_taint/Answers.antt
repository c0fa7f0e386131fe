use Rattle.word_choices.proofs.OffsetShadows.{plain_offset}
use Rattle.word_choices.proofs.shift_taints.offset_taint.Goals as goal

pub returns-else-shift-clause-word : goal.returns-else-shift-clause-word
returns-else-shift-clause-word c = plain_offset c.args.shift.y c.right_taint.result c.args.shift.a_signed c.args.shift.b_signed _ _ c.if-shift.false c.right_taint.ensures.word
