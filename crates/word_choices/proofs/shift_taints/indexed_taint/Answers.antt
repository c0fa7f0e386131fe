use Rattle.word_choices.proofs.OffsetShadows.{indexed_exact}
use Rattle.word_choices.proofs.shift_taints.indexed_taint.Goals as goal

pub returns-clause-word : goal.returns-clause-word
returns-clause-word c = indexed_exact c.args.shift.y c.offset_taint.result c.args.shift.a_signed c.args.shift.b_signed _ _ c.requires.unsigned c.offset_taint.ensures.word
