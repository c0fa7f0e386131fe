use Rattle.word_logic.proofs.Majorities.{sum-fits, word_of-sum}
use Rattle.word_logic.proofs.adder.sum_value.Goals as goal

pub returns-clause-word : goal.returns-clause-word
returns-clause-word c n = word_of-sum n c.args.values.now.a c.args.values.now.b c.args.values.now.c

pub returns-clause-fits : goal.returns-clause-fits
returns-clause-fits c n = sum-fits n c.args.values.now.a c.args.values.now.b c.args.values.now.c
