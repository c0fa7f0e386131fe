use Rattle.cif_defs.specs.Meanings.{floor_rem}
use Rattle.cif_arith.proofs.Meanings.{word_of-division}
use Rattle.cif_meanings.proofs.NumberMeanings.{gives}
use Rattle.cif_meanings.proofs.meanings.numbers.modfloor_word.Goals as goal

pub returns : goal.returns
returns c =
    gives c.from_u128.result _ _ c.from_u128.ensures
    (word_of-division floor_rem c.division_width-common.result c.args.width c.args.signed c.args.a.now c.args.b.now c.in_ok-numbers.numbers.a c.in_ok-numbers.numbers.b c.mod_floor.result
    c.division_width-common.ensures.a c.division_width-common.ensures.b c.division_width-common.ensures.width c.in_ok-numbers.ensures.a c.in_ok-numbers.ensures.b c.mod_floor.ensures)
