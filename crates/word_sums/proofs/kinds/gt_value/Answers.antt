use Rattle.word_sums.proofs.KindLaws.{gt_is}
use Rattle.word_sums.proofs.kinds.gt_value.Goals as goal

pub returns-clause-word : goal.returns-clause-word
returns-clause-word c = gt_is c.args.shape c.args.values c.flag.result c.is_greater.result c.args.shape.some_y c.flag.ensures.word c.is_greater.ensures
