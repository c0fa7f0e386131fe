use Rattle.std.proofs.lemmas.Nat.{xor_lt}
use Rattle.word_sums.proofs.sums.Sums.case.Goals as goal

pub returns-clause-fits : goal.returns-clause-fits
returns-clause-fits c = xor_lt c.args.self.now.width c.sum.result c.sum-2.result c.sum.ensures.fits c.sum-2.ensures.fits
