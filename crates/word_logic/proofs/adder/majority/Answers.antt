use Rattle.word_logic.proofs.Majorities.{majority-fits, word_of-majority}
use Rattle.word_logic.proofs.adder.majority.Goals as goal

pub returns-clause-word : goal.returns-clause-word
returns-clause-word c n = word_of-majority n c.args.a c.args.b c.args.c

pub returns-clause-fits : goal.returns-clause-fits
returns-clause-fits c n = majority-fits n c.args.a c.args.b c.args.c
