use Rattle.std.proofs.Common.{◌∙◌}
use Rattle.word_numbers.proofs.MoveLaws.{all_raised, word_of-raised}
use Rattle.word_numbers.proofs.moves.raised.Goals as goal

pub returns-then-by-width-clause-word : goal.returns-then-by-width-clause-word
returns-then-by-width-clause-word c = c.lowest.ensures.word ∙ word_of-raised c.args.width c.args.by c.args.number c.requires.limit

pub returns-else-by-width-clause-word : goal.returns-else-by-width-clause-word
returns-else-by-width-clause-word c = all_raised c.args.width c.args.by c.args.number c.if-by-width.false
