use Rattle.std.proofs.Common.{ap, bit_and, ◌∙◌, arith}
use Rattle.std.proofs.lemmas.Nat.{and_mask}
use Rattle.cif_defs.specs.Words.{word_of}
use Rattle.cif_defs.proofs.WordNumbers.{word_of-mod}
use Rattle.word_numbers.proofs.masks.lowest.Goals as goal

pub returns-clause-value : goal.returns-clause-value
returns-clause-value c = ap (bit_and c.args.number) c.mask.ensures.value ∙ and_mask c.args.number c.args.width

pub returns-clause-word : goal.returns-clause-word
returns-clause-word c = ap (word_of c.args.width) (ap (bit_and c.args.number) c.mask.ensures.value ∙ and_mask c.args.number c.args.width)
    ∙ word_of-mod c.args.width c.args.width c.args.number (omega arith)
