use Rattle.std.proofs.Common.{refl}
use Rattle.std.proofs.lemmas.Nat.{xor_lt}
use Rattle.word_sums.proofs.HeldNumbers.{and_fits}
use Rattle.word_sums.proofs.CoarseLaws.{greatest_divides, least_divides, quotient_taint_is}
use Rattle.word_sums.proofs.coarse.quotient_taint.Goals as goal

pub quotient_bound-low-requires : goal.quotient_bound-low-requires
quotient_bound-low-requires c = greatest_divides c.args.shape.b c.args.values.b c.args.taints.b c.of-b.result _ c.of-b.ensures refl

pub quotient_bound-high-requires : goal.quotient_bound-high-requires
quotient_bound-high-requires c = least_divides c.of-b.result _ refl

pub returns-clause-word : goal.returns-clause-word
returns-clause-word c =
    quotient_taint_is c.args.shape c.args.values c.args.taints c.of-a.result c.of-b.result c.quotient_bound-low.result c.quotient_bound-high.result c.filled.result c.repeated.result c.divides-tainted.result
    c.args.shape.limit_y c.quotient_bound-low.type_inv c.quotient_bound-high.type_inv c.of-a.ensures c.of-b.ensures c.quotient_bound-low.ensures c.quotient_bound-high.ensures (c.filled.ensures.word 128 (xor_lt 128 c.quotient_bound-low.result c.quotient_bound-high.result c.quotient_bound-low.type_inv c.quotient_bound-high.type_inv)) c.divides-tainted.ensures c.repeated.ensures.word

pub returns-clause-fits : goal.returns-clause-fits
returns-clause-fits c = and_fits c.args.shape.y c.filled.result c.repeated.result c.repeated.ensures.fits
