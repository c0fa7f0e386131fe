use Rattle.word_logic.proofs.BitwiseTaints.{shown_taint}
use Rattle.word_logic.proofs.binary.extended_taint.Goals as goal

pub returns-clause-word : goal.returns-clause-word
returns-clause-word c =
    shown_taint c.args.kind c.args.shown.now.to c.args.shown.now.from c.args.b_width c.args.shown.now.signed c.shown-x.result c.shown-tx.result c.extend-y.result c.extend-ty.result
    c.args.values.now.a c.args.taints.now.a c.args.values.now.b c.args.taints.now.b c.bitwise_taint.result
    c.requires.kind (record { x_word = c.shown-x.ensures.word; tx_word = c.shown-tx.ensures.word; y_word = c.extend-y.ensures.word; ty_word = c.extend-ty.ensures.word }) c.bitwise_taint.ensures.word
