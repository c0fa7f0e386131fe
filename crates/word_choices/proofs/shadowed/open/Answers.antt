use Rattle.std.specs.Prelude.{◌||◌, refl}
use Rattle.std.proofs.lemmas.Nat.{or_lt, xor_lt}
use Rattle.cif_defs.specs.Words.{digit, xor}
use Rattle.word_numbers.proofs.Digits.{word_of-or_by, word_of-xor_by}
use Rattle.word_choices.proofs.shadowed.open.Goals as goal

pub returns-clause-word : goal.returns-clause-word
returns-clause-word c n =
    word_of-or_by n _ _ (λ i. digit c.args.zero.taint i || digit c.args.one.taint i) (λ i. xor (digit c.args.zero.value i) (digit c.args.one.value i))
    (word_of-or_by n _ _ (digit c.args.zero.taint) (digit c.args.one.taint) refl refl)
    (word_of-xor_by n _ _ (digit c.args.zero.value) (digit c.args.one.value) refl refl)

pub returns-clause-fits : goal.returns-clause-fits
returns-clause-fits c n z o = or_lt n _ _ (or_lt n _ _ z.taint o.taint) (xor_lt n _ _ z.value o.value)
