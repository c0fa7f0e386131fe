use Rattle.std.proofs.Common.{int_div}
use Rattle.cif_arith.proofs.Meanings.{word_of-division}
use Rattle.cif_meanings.proofs.NumberMeanings.{gives}
use Rattle.cif_meanings.proofs.meanings.numbers.div_word.Goals as goal

pub returns : goal.returns
returns c =
    gives c.from_u128.result _ _ c.from_u128.ensures
    (word_of-division int_div c.division_width-common.result c.args.width c.args.signed c.args.a.now c.args.b.now c.in_ok-numbers.numbers.a c.in_ok-numbers.numbers.b c.div.result
    c.division_width-common.ensures.a c.division_width-common.ensures.b c.division_width-common.ensures.width c.in_ok-numbers.ensures.a c.in_ok-numbers.ensures.b c.div.ensures)
