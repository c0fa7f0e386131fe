use Rattle.word_logic.proofs.Bitwise.{word_of-min}
use Rattle.word_logic.proofs.bounds.least.Goals as goal

pub returns-clause-word : goal.returns-clause-word
returns-clause-word c = word_of-min c.args.width c.args.value c.args.taint c.complement.result c.complement.ensures.word
