use Rattle.cif_defs.specs.Words.{word_of}
use Rattle.word_choices.proofs.OffsetShadows.{indexed_value_is}
use Rattle.word_choices.proofs.shifts.indexed_value.Goals as goal

pub returns-clause-word : goal.returns-clause-word
returns-clause-word c = indexed_value_is c.args.shift.y c.args.shift.a_signed c.args.shift.b_signed (word_of c.args.shift.a c.args.values.a) (word_of c.args.shift.b c.args.values.b) _ c.requires.unsigned c.offset_value.ensures.word
