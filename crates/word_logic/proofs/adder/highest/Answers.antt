use Rattle.word_logic.proofs.Majorities.{highest-is}
use Rattle.word_logic.proofs.adder.highest.Goals as goal

pub returns-clause-word : goal.returns-clause-word
returns-clause-word c =
    highest-is c.args.width c.args.values.now.a c.args.taints.now.a c.args.values.now.b c.args.taints.now.b c.args.values.now.c c.args.taints.now.c
    c.greatest-a.result c.greatest-b.result c.greatest-c.result c.majority.result c.greatest-a.ensures.word c.greatest-b.ensures.word c.greatest-c.ensures.word (c.majority.ensures.word c.args.width)
