use Rattle.cif_arith.proofs.Meanings.{word_of-neg}
use Rattle.cif_defs.specs.Words.{word_of}
use Rattle.word_sums.proofs.ValueLaws.{residue_fits}
use Rattle.word_sums.proofs.values.neg_value.Goals as goal

pub returns-clause-word : goal.returns-clause-word
returns-clause-word c = word_of-neg c.args.shape.y c.args.shape.signed (word_of c.args.shape.a c.args.value) c.extended.result c.neg.result c.extended.ensures.value c.neg.ensures

pub returns-clause-fits : goal.returns-clause-fits
returns-clause-fits c = residue_fits c.args.shape.y _ c.neg.result c.neg.ensures
