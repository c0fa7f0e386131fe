use Rattle.cif_arith.proofs.Meanings.{word_of-sub}
use Rattle.word_sums.proofs.ValueLaws.{residue_fits}
use Rattle.cif_defs.specs.Words.{word_of}
use Rattle.word_sums.proofs.values.sub_value.Goals as goal

pub returns-clause-word : goal.returns-clause-word
returns-clause-word c =
    word_of-sub c.args.shape.y c.args.shape.signed (word_of c.args.shape.a c.args.values.a) (word_of c.args.shape.b c.args.values.b) c.extended_pair-numbers.result.a c.extended_pair-numbers.result.b c.sub.result
    c.extended_pair-numbers.ensures.a c.extended_pair-numbers.ensures.b c.sub.ensures

pub returns-clause-fits : goal.returns-clause-fits
returns-clause-fits c = residue_fits c.args.shape.y _ c.sub.result c.sub.ensures
