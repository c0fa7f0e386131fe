use Rattle.word_sums.proofs.KindLaws.{ge_is}
use Rattle.word_sums.proofs.kinds.ge_value.Goals as goal

pub returns-clause-word : goal.returns-clause-word
returns-clause-word c = ge_is c.args.shape c.args.values c.flag.result c.is_less.result c.args.shape.some_y c.flag.ensures.word c.is_less.ensures
