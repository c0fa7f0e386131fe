use Rattle.std.proofs.lemmas.Nat.{or_lt}
use Rattle.word_sums.proofs.CoarseLaws.{from_lowest_is}
use Rattle.word_sums.proofs.coarse.from_lowest.Goals as goal

pub returns-clause-word : goal.returns-clause-word
returns-clause-word c =
    from_lowest_is c.args.width c.args.number c.mask.result c.add.result c.complement.result c.requires.fits c.mask.ensures.fits c.mask.ensures.word c.add.ensures c.complement.ensures.word

pub returns-clause-fits : goal.returns-clause-fits
returns-clause-fits c = or_lt c.args.width c.args.number c.complement.result c.requires.fits c.complement.ensures.fits
