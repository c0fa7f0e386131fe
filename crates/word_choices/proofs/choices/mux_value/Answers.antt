use Rattle.word_choices.proofs.ChoiceValues.{mux_by}
use Rattle.word_choices.proofs.choices.mux_value.Goals as goal

pub returns-clause-word : goal.returns-clause-word
returns-clause-word c = mux_by c.args.width c.args.values.a c.args.values.b c.args.values.c c.picked.result c.bit.result c.bit.ensures c.picked.ensures
