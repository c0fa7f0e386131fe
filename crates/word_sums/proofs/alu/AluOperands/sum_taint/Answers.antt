use Rattle.std.proofs.lemmas.Nat.{or_lt}
use Rattle.word_sums.proofs.AluLaws.{fits_between, sum_number_is}
use Rattle.word_sums.proofs.alu.AluOperands.sum_taint.Goals as goal

pub returns-clause-value : goal.returns-clause-value
returns-clause-value c =
    sum_number_is c.args.width c.args.self.now c.between-least.result c.between-greatest.result c.single_taint-single.result c.taint.result c.taint-2.result c.sum.result c.sum-2.result c.join.result
    c.between-least.ensures c.between-greatest.ensures c.single_taint-single.ensures.value c.taint.ensures.value c.taint-2.ensures.value c.sum.ensures.value c.sum-2.ensures.value c.join.ensures.value

pub returns-clause-fits : goal.returns-clause-fits
returns-clause-fits c =
    or_lt c.args.width c.single_taint-single.result c.join.result c.single_taint-single.ensures.fits
    (c.join.ensures.fits c.args.width (fits_between c.args.width c.taint.result c.between-least.result _ _ _ c.between-least.ensures c.taint.ensures.fits) (fits_between c.args.width c.taint-2.result c.between-greatest.result _ _ _ c.between-greatest.ensures c.taint-2.ensures.fits)
    (fits_between c.args.width c.sum.result c.between-least.result _ _ _ c.between-least.ensures c.sum.ensures.fits) (fits_between c.args.width c.sum-2.result c.between-greatest.result _ _ _ c.between-greatest.ensures c.sum-2.ensures.fits))
