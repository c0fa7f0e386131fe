use Rattle.std.proofs.Common.{arith, ◌^◌, ◌≤◌}
use Rattle.word_sums.proofs.HeldNumbers.{power_grows}
use Rattle.word_sums.proofs.bounds.places_below.Goals as goal

pub returns-else-start-eq0-clause-fits : goal.returns-else-start-eq0-clause-fits
returns-else-start-eq0-clause-fits c = let more : 2 ^ c.args.start ≤ 2 ^ c.args.width = power_grows c.args.start c.args.width c.requires.start in omega (arith, c.mask.ensures.fits)
