use Rattle.word_sums.proofs.BoundLaws.{greatest_is, least_is, same_bounds}
use Rattle.word_sums.proofs.bounds.Bounds.of.Goals as goal

pub returns : goal.returns
returns c =
    same_bounds _ _ _ _ (least_is c.args.width c.args.value c.args.taint c.complement.result c.complement.ensures.fits c.complement.ensures.word)
    (greatest_is c.args.width c.args.value c.args.taint c.requires.value_fits c.requires.taint_fits)
