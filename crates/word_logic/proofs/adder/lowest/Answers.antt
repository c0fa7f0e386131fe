use Rattle.word_logic.proofs.Majorities.{lowest-is}
use Rattle.word_logic.proofs.adder.lowest.Goals as goal

pub returns-clause-word : goal.returns-clause-word
returns-clause-word c =
    lowest-is c.args.width c.args.values.now.a c.args.taints.now.a c.args.values.now.b c.args.taints.now.b c.args.values.now.c c.args.taints.now.c
    c.least-a.result c.least-b.result c.least-c.result c.majority.result c.least-a.ensures.word c.least-b.ensures.word c.least-c.ensures.word (c.majority.ensures.word c.args.width)
