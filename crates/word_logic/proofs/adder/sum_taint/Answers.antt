use Rattle.word_logic.proofs.Majorities.{turned-fits, word_of-turned}
use Rattle.word_logic.proofs.adder.sum_taint.Goals as goal

pub returns-clause-word : goal.returns-clause-word
returns-clause-word c n = word_of-turned n c.args.taints.now.a c.args.taints.now.b c.args.taints.now.c

pub returns-clause-fits : goal.returns-clause-fits
returns-clause-fits c n = turned-fits n c.args.taints.now.a c.args.taints.now.b c.args.taints.now.c
