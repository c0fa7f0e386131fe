use Rattle.std.proofs.lemmas.Nat.{xor_lt}
use Rattle.word_sums.proofs.AluLaws.{turned_word}
use Rattle.word_sums.proofs.alu.inverted.Goals as goal

pub returns-clause-value : goal.returns-clause-value
returns-clause-value c = turned_word c.args.width c.args.summand.value c.repeated.result c.args.invert c.repeated.ensures.word

pub returns-clause-value_fits : goal.returns-clause-value_fits
returns-clause-value_fits c = xor_lt c.args.width c.args.summand.value c.repeated.result c.requires.fits c.repeated.ensures.fits
