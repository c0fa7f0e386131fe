use Rattle.std.proofs.Common.{◌∙◌}
use Rattle.word_numbers.proofs.MoveLaws.{sliced}
use Rattle.word_numbers.proofs.widths.slice.Goals as goal

pub returns-clause-word : goal.returns-clause-word
returns-clause-word c n h = c.lowest.ensures.word ∙ sliced n c.args.width c.args.at c.args.number h
