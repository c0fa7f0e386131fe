use Rattle.std.proofs.lemmas.Nat.{or_lt}
use Rattle.word_logic.proofs.Bitwise.{word_of-max}
use Rattle.word_logic.proofs.bounds.greatest.Goals as goal

pub returns-clause-word : goal.returns-clause-word
returns-clause-word c = word_of-max c.args.width c.args.value c.args.taint

pub returns-clause-fits : goal.returns-clause-fits
returns-clause-fits c = or_lt c.args.width c.args.value c.args.taint c.requires.value_fits c.requires.taint_fits
