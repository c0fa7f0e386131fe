use Rattle.std.proofs.Common.{arith, refl}
use Rattle.std.proofs.lemmas.Nat.{pow_pos}
use Rattle.word_numbers.proofs.OneLaws.{highest-fits, highest-is, no_highest}
use Rattle.word_numbers.proofs.ones.highest_one.Goals as goal

pub returns-then-number-eq0-clause-word : goal.returns-then-number-eq0-clause-word
returns-then-number-eq0-clause-word c n h = no_highest n c.args.number c.if-number-eq0.true

pub returns-then-number-eq0-clause-fits : goal.returns-then-number-eq0-clause-fits
returns-then-number-eq0-clause-fits c n h = pow_pos n

pub returns-else-number-eq0-clause-word : goal.returns-else-number-eq0-clause-word
returns-else-number-eq0-clause-word c n h = highest-is n c.args.number _ (omega arith) (omega arith) h refl

pub returns-else-number-eq0-clause-fits : goal.returns-else-number-eq0-clause-fits
returns-else-number-eq0-clause-fits c n h = highest-fits n c.args.number _ (omega arith) (omega arith) h refl
