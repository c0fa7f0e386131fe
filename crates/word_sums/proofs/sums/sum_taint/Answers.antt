use Rattle.std.proofs.Common.{ap, subst, ◌^◌, ◌<◌}
use Rattle.std.proofs.lemmas.Nat.{or_lt}
use Rattle.word_sums.specs.declared.sums.Sums.{Sums}
use Rattle.word_sums.proofs.sums.sum_taint.Goals as goal

pub returns-clause-fits : goal.returns-clause-fits
returns-clause-fits c =
    or_lt c.args.width c.single_taint.result c.taint.result c.single_taint.ensures.fits
    (subst (λ n. c.taint.result < 2 ^ n) (ap (λ (s : Sums). s.width) c.between-sums.ensures) c.taint.ensures.fits)
