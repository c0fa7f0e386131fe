use Rattle.word_numbers.proofs.FlagLaws.{parity-held}
use Rattle.word_numbers.proofs.flags.is_odd.Goals as goal

pub returns : goal.returns
returns c n h = parity-held n c.args.number h
