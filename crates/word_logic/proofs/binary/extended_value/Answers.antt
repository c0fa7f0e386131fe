use Rattle.word_logic.proofs.Bitwise.{shown_value}
use Rattle.word_logic.proofs.binary.extended_value.Goals as goal

pub returns-clause-word : goal.returns-clause-word
returns-clause-word c =
    shown_value c.args.kind c.args.shown.now.to c.args.shown.now.from c.args.b_width c.args.shown.now.signed c.shown-x.result c.extend-y.result c.args.values.now.a c.args.values.now.b c.bitwise.result
    c.requires.kind c.shown-x.ensures.word c.extend-y.ensures.word c.bitwise.ensures.word
