use Rattle.word_logic.proofs.Majorities.{open-is}
use Rattle.word_logic.proofs.adder.carry_taint.Goals as goal

pub returns-clause-word : goal.returns-clause-word
returns-clause-word c = open-is c.args.width c.highest.result c.lowest.result c.complement.result _ _ c.highest.ensures.word c.lowest.ensures.word c.complement.ensures.word
