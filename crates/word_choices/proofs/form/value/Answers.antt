use Rattle.word_choices.proofs.FormLaws.{cell_words}
use Rattle.word_choices.proofs.form.value.Goals as goal

pub returns-clause-words : goal.returns-clause-words
returns-clause-words c cell s = cell_words c.args.form cell c.args.values c.one.result c.output_value.result s c.one.ensures c.output_value.ensures.word
