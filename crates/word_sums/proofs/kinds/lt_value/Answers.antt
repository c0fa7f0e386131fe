use Rattle.word_sums.proofs.KindLaws.{lt_is}
use Rattle.word_sums.proofs.kinds.lt_value.Goals as goal

pub returns-clause-word : goal.returns-clause-word
returns-clause-word c = lt_is c.args.shape c.args.values c.flag.result c.is_less.result c.args.shape.some_y c.flag.ensures.word c.is_less.ensures
