use Rattle.cif_defs.specs.Meanings.{floor_rem}
use Rattle.word_sums.proofs.ValueLaws.{division_is}
use Rattle.word_sums.proofs.values.modfloor_value.Goals as goal

pub returns-clause-word : goal.returns-clause-word
returns-clause-word c =
    division_is floor_rem c.args.shape c.args.values c.division_width-width.result c.extended_pair-numbers.result.a c.extended_pair-numbers.result.b c.lowest.result c.mod_floor.result
    c.division_width-width.ensures.a c.division_width-width.ensures.b c.division_width-width.ensures.y c.extended_pair-numbers.ensures.a c.extended_pair-numbers.ensures.b c.mod_floor.ensures c.lowest.ensures.word
