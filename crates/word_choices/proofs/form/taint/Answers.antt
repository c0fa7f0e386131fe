use Rattle.word_choices.proofs.FormLaws.{cell_taints}
use Rattle.word_choices.proofs.form.taint.Goals as goal

pub returns-clause-words : goal.returns-clause-words
returns-clause-words c cell s = cell_taints c.args.form cell c.args.values c.args.taints c.one.result c.output_taint.result s c.one.ensures c.output_taint.ensures.word
