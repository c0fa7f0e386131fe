use Rattle.std.proofs.lemmas.Nat.{or_lt}
use Rattle.word_sums.proofs.HeldNumbers.{and_fits}
use Rattle.word_sums.proofs.CoarseLaws.{product_taint_is}
use Rattle.word_sums.proofs.coarse.product_taint.Goals as goal

pub from_lowest-places-requires-clause-fits : goal.from_lowest-places-requires-clause-fits
from_lowest-places-requires-clause-fits c = or_lt c.args.shape.y c.summand-first.result.taint c.summand-second.result.taint c.summand-first.ensures.taint_fits c.summand-second.ensures.taint_fits

pub returns-clause-word : goal.returns-clause-word
returns-clause-word c =
    product_taint_is c.args.shape c.args.values c.args.taints c.summand-first.result.value c.summand-first.result.taint c.summand-second.result.value c.summand-second.result.taint
    c.from_lowest-places.result c.repeated.result c.has_one.result c.has_one-2.result
    (record { value = c.summand-first.ensures.value; taint = c.summand-first.ensures.taint }) (record { value = c.summand-second.ensures.value; taint = c.summand-second.ensures.taint })
    (c.has_one.ensures c.args.shape.y (or_lt c.args.shape.y _ _ c.summand-first.ensures.value_fits c.summand-first.ensures.taint_fits))
    (c.has_one-2.ensures c.args.shape.y (or_lt c.args.shape.y _ _ c.summand-second.ensures.value_fits c.summand-second.ensures.taint_fits))
    c.from_lowest-places.ensures.word c.repeated.ensures.word

pub returns-clause-fits : goal.returns-clause-fits
returns-clause-fits c = and_fits c.args.shape.y c.from_lowest-places.result c.repeated.result c.repeated.ensures.fits
