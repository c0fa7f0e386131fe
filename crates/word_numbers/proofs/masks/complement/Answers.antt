use Rattle.std.proofs.Common.{arith, ◌∙◌}
use Rattle.word_numbers.proofs.MaskLaws.{word_of-not}
use Rattle.word_numbers.proofs.masks.complement.Goals as goal

pub returns-clause-word : goal.returns-clause-word
returns-clause-word c = c.lowest.ensures.word ∙ word_of-not c.args.width c.args.number c.requires.limit (omega arith)
