use Rattle.word_sums.proofs.ValueLaws.{number_is}
use Rattle.word_sums.proofs.values.extended.Goals as goal

pub returns-clause-value : goal.returns-clause-value
returns-clause-value c = number_is c.args.width c.extend.result _ c.extend.ensures.fits c.extend.ensures.word
