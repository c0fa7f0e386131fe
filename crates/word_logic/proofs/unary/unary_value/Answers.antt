use Rattle.word_logic.proofs.TruthValues.{unary-not}
use Rattle.word_logic.proofs.unary.unary_value.Goals as goal

pub returns-in-Not-clause-word : goal.returns-in-Not-clause-word
returns-in-Not-clause-word c =
    unary-not c.args.kind c.args.shown.now.to c.args.shown.now.from c.args.shown.now.signed c.args.value c.shown.result c.complement.result c.in-Not.is c.shown.ensures.word c.complement.ensures.word
