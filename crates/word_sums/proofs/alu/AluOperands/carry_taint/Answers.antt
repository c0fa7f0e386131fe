use Rattle.std.proofs.lemmas.Nat.{xor_lt}
use Rattle.word_sums.proofs.alu.AluOperands.carry_taint.Goals as goal

pub returns-clause-fits : goal.returns-clause-fits
returns-clause-fits c =
    c.join.ensures.fits c.args.width (xor_lt c.args.width c.carries-least.result c.carries.result c.carries-least.ensures.fits c.carries.ensures.fits)
    (xor_lt c.args.width c.carries-greatest.result c.carries-2.result c.carries-greatest.ensures.fits c.carries-2.ensures.fits) c.carries-least.ensures.fits c.carries-greatest.ensures.fits
