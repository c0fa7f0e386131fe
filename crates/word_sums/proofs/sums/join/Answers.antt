use Rattle.std.proofs.lemmas.Nat.{or_lt, xor_lt}
use Rattle.word_sums.proofs.sums.join.Goals as goal

pub returns-clause-fits : goal.returns-clause-fits
returns-clause-fits c n t0 t1 v0 v1 = or_lt n _ _ (or_lt n c.args.zero_taint c.args.one_taint t0 t1) (xor_lt n c.args.zero_value c.args.one_value v0 v1)
