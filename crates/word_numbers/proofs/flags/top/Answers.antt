use Rattle.std.proofs.Common.{◌∙◌}
use Rattle.word_numbers.proofs.FlagLaws.{top-held}
use Rattle.word_numbers.proofs.flags.top.Goals as goal

pub returns : goal.returns
returns c = c.bit.ensures ∙ top-held c.args.width c.args.number c.requires.some
