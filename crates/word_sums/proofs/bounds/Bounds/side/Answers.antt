use Rattle.word_sums.proofs.BoundLaws.{side_fits, side_is}
use Rattle.word_sums.proofs.bounds.Bounds.side.Goals as goal

pub returns-clause-value : goal.returns-clause-value
returns-clause-value c =
    side_is c.args.width c.args.start c.args.low c.args.high c.args.self.now c.bound.result c.bound-2.result c.places_below-places.result c.complement.result
    c.bound.ensures c.bound-2.ensures c.places_below-places.ensures.value c.places_below-places.ensures.fits c.complement.ensures.fits c.complement.ensures.word

pub returns-clause-fits : goal.returns-clause-fits
returns-clause-fits c = side_fits c.args.width c.bound.result c.bound-2.result c.places_below-places.result c.complement.result c.places_below-places.ensures.fits c.complement.ensures.fits
