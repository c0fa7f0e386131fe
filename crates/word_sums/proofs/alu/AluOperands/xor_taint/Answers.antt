use Rattle.std.proofs.lemmas.Nat.{or_lt}
use Rattle.word_sums.proofs.AluLaws.{xor_word_is}
use Rattle.word_sums.proofs.alu.AluOperands.xor_taint.Goals as goal

pub returns-clause-value : goal.returns-clause-value
returns-clause-value c = xor_word_is c.args.width c.args.self.now.first.taint c.args.self.now.least.taint c.repeated.result c.args.tainted c.repeated.ensures.word

pub returns-clause-fits : goal.returns-clause-fits
returns-clause-fits c = or_lt c.args.width _ _ (or_lt c.args.width c.args.self.now.first.taint c.args.self.now.least.taint c.requires.first c.requires.least) c.repeated.ensures.fits
