use Rattle.word_numbers.proofs.FlagLaws.{all_ones-held}
use Rattle.word_numbers.proofs.flags.is_all_ones.Goals as goal

pub returns : goal.returns
returns c = all_ones-held c.args.width c.args.number c.mask.result c.requires.fits c.mask.ensures.value
