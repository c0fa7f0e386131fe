use Rattle.cif_defs.specs.Words.{word_of}
use Rattle.word_logic.proofs.TruthValues.{value-logic_and, value-logic_or}
use Rattle.word_logic.proofs.binary.binary_value.Goals as goal

pub returns-in-LogicAnd-clause-word : goal.returns-in-LogicAnd-clause-word
returns-in-LogicAnd-clause-word c =
    value-logic_and c.args.kind c.args.shown.now.to c.args.shown.now.signed c.has_one.result c.has_one-in-LogicAnd.result (word_of c.args.shown.now.from c.args.values.now.a) (word_of c.args.b_width c.args.values.now.b) _
    c.in-LogicAnd.is (c.has_one.ensures c.args.shown.now.from c.requires.a_fits) (c.has_one-in-LogicAnd.ensures c.args.b_width c.requires.b_fits)
    (c.flag.ensures.word c.args.shown.now.to c.requires.form.narrow.some_shown)

pub returns-in-LogicOr-clause-word : goal.returns-in-LogicOr-clause-word
returns-in-LogicOr-clause-word c =
    value-logic_or c.args.kind c.args.shown.now.to c.args.shown.now.signed c.has_one-in-LogicOr.result c.has_one-in-LogicOr-2.result (word_of c.args.shown.now.from c.args.values.now.a) (word_of c.args.b_width c.args.values.now.b) _
    c.in-LogicOr.is (c.has_one-in-LogicOr.ensures c.args.shown.now.from c.requires.a_fits) (c.has_one-in-LogicOr-2.ensures c.args.b_width c.requires.b_fits)
    (c.flag-in-LogicOr.ensures.word c.args.shown.now.to c.requires.form.narrow.some_shown)
