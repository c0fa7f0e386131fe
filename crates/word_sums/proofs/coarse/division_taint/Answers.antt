use Rattle.word_sums.proofs.CoarseLaws.{division_taint_is}
use Rattle.word_sums.proofs.coarse.division_taint.Goals as goal

pub returns-clause-word : goal.returns-clause-word
returns-clause-word c = division_taint_is c.args.shape c.args.values c.args.taints c.repeated.result c.divides.result c.divides.ensures c.repeated.ensures.word
