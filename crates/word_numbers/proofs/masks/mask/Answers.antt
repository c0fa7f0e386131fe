use Rattle.std.proofs.Common.{arith}
use Rattle.std.proofs.lemmas.Nat.{pow_pos}
use Rattle.cif_arith.proofs.Residues.{mask-shr}
use Rattle.word_numbers.proofs.MaskLaws.{word_of-mask}
use Rattle.word_numbers.proofs.masks.mask.Goals as goal

pub returns-clause-value : goal.returns-clause-value
returns-clause-value c = mask-shr 128 c.args.width c.requires.limit

pub returns-clause-word : goal.returns-clause-word
returns-clause-word c = word_of-mask c.args.width _ (mask-shr 128 c.args.width c.requires.limit)

pub returns-clause-fits : goal.returns-clause-fits
returns-clause-fits c = omega (arith, mask-shr 128 c.args.width c.requires.limit, pow_pos c.args.width)
