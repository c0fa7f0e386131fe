use Rattle.word_sums.proofs.BoundLaws.{below_is}
use Rattle.word_sums.proofs.bounds.below.Goals as goal

pub returns-clause-value : goal.returns-clause-value
returns-clause-value c = below_is c.args.width c.args.start c.args.number c.places_below.result c.places_below.ensures.value c.places_below.ensures.fits
