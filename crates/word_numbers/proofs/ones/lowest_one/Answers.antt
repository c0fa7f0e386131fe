use Rattle.std.proofs.Common.{arith, refl}
use Rattle.std.proofs.lemmas.Nat.{pow_pos}
use Rattle.word_numbers.proofs.OneLaws.{lowest-fits, lowest-is, no_lowest}
use Rattle.word_numbers.proofs.ones.lowest_one.Goals as goal

pub returns-then-number-eq0-clause-word : goal.returns-then-number-eq0-clause-word
returns-then-number-eq0-clause-word c n h = no_lowest n c.args.number c.if-number-eq0.true

pub returns-then-number-eq0-clause-fits : goal.returns-then-number-eq0-clause-fits
returns-then-number-eq0-clause-fits c n h = pow_pos n

pub returns-else-number-eq0-clause-word : goal.returns-else-number-eq0-clause-word
returns-else-number-eq0-clause-word c n h = lowest-is n c.args.number _ (omega arith) (omega arith) h refl

pub returns-else-number-eq0-clause-fits : goal.returns-else-number-eq0-clause-fits
returns-else-number-eq0-clause-fits c n h = lowest-fits n c.args.number _ (omega arith) (omega arith) h refl
