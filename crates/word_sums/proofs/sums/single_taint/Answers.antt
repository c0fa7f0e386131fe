use Rattle.std.proofs.lemmas.Nat.{or_lt}
use Rattle.word_sums.proofs.sums.single_taint.Goals as goal

pub returns-clause-fits : goal.returns-clause-fits
returns-clause-fits c = or_lt c.args.width c.below.result c.below-2.result c.below.ensures.fits c.below-2.ensures.fits
