use Rattle.word_sums.proofs.KindLaws.{ne_is}
use Rattle.word_sums.proofs.kinds.ne_value.Goals as goal

pub returns-clause-word : goal.returns-clause-word
returns-clause-word c = ne_is c.args.shape c.args.values c.flag.result c.is_equal.result c.args.shape.some_y c.flag.ensures.word c.is_equal.ensures
