use Rattle.word_choices.proofs.ChoiceShadows.{mux_end}
use Rattle.word_choices.proofs.choice_taints.mux_taint.Goals as goal

pub returns-clause-word : goal.returns-clause-word
returns-clause-word c = mux_end c.args.width c.args.a c.args.b c.args.s c.chosen_at.result c.requires.a_within c.requires.b_within c.chosen_at.ensures
