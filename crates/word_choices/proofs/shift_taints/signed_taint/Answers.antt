use Rattle.word_choices.proofs.ShiftShadows.{signed_as, unsigned_as}
use Rattle.word_choices.proofs.shift_taints.signed_taint.Goals as goal

pub returns-then-shift-clause-word : goal.returns-then-shift-clause-word
returns-then-shift-clause-word c = signed_as c.args.shift.y c.sign_taint.result c.args.shift.a_signed _ _ c.if-shift.true c.sign_taint.ensures.word

pub returns-else-shift-clause-word : goal.returns-else-shift-clause-word
returns-else-shift-clause-word c = unsigned_as c.args.shift.y c.right_taint.result c.args.shift.a_signed _ _ c.if-shift.false c.right_taint.ensures.word
