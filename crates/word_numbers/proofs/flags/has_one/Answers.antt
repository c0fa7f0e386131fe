use Rattle.word_numbers.proofs.FlagLaws.{has_one-held}
use Rattle.word_numbers.proofs.flags.has_one.Goals as goal

pub returns : goal.returns
returns c n h = has_one-held n c.args.number h
