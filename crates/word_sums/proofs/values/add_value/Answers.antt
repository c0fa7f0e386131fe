use Rattle.cif_arith.proofs.Meanings.{word_of-add}
use Rattle.word_sums.proofs.ValueLaws.{cut_fits}
use Rattle.cif_defs.specs.Words.{word_of}
use Rattle.word_sums.proofs.values.add_value.Goals as goal

pub returns-clause-word : goal.returns-clause-word
returns-clause-word c =
    word_of-add c.args.shape.y c.args.shape.signed (word_of c.args.shape.a c.args.values.a) (word_of c.args.shape.b c.args.values.b) c.extended_pair-numbers.result.a c.extended_pair-numbers.result.b c.add.result
    c.extended_pair-numbers.ensures.a c.extended_pair-numbers.ensures.b c.add.ensures

pub returns-clause-fits : goal.returns-clause-fits
returns-clause-fits c = cut_fits c.args.shape.y _ c.add.result c.add.ensures
