use Rattle.std.proofs.Common.{arith, refl}
use Rattle.std.proofs.lemmas.Nat.{pow_pos}
use Rattle.word_numbers.proofs.OneLaws.{filled-fits, filled-is, none_filled}
use Rattle.word_numbers.proofs.ones.filled.Goals as goal

pub returns-then-number-eq0-clause-word : goal.returns-then-number-eq0-clause-word
returns-then-number-eq0-clause-word c n h = none_filled n c.args.number c.if-number-eq0.true h

pub returns-then-number-eq0-clause-fits : goal.returns-then-number-eq0-clause-fits
returns-then-number-eq0-clause-fits c n h = pow_pos n

pub returns-else-number-eq0-clause-word : goal.returns-else-number-eq0-clause-word
returns-else-number-eq0-clause-word c n h = filled-is n c.args.number _ (omega arith) (omega arith) h refl

pub returns-else-number-eq0-clause-fits : goal.returns-else-number-eq0-clause-fits
returns-else-number-eq0-clause-fits c n h = filled-fits n c.args.number _ (omega arith) (omega arith) h refl
