use Rattle.cif_arith.proofs.Meanings.{word_of-mul}
use Rattle.cif_meanings.proofs.NumberMeanings.{gives}
use Rattle.cif_meanings.proofs.meanings.numbers.mul_word.Goals as goal

pub returns : goal.returns
returns c =
    gives c.from_u128.result _ _ c.from_u128.ensures
    (word_of-mul c.args.width c.args.signed c.args.a.now c.args.b.now c.in_ok-numbers.numbers.a c.in_ok-numbers.numbers.b c.mul.result c.in_ok-numbers.ensures.a c.in_ok-numbers.ensures.b c.mul.ensures)
