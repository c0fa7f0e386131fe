use Rattle.word_logic.proofs.HeldOutputs.{words_of_cell}
use Rattle.word_logic.proofs.form.LogicForm.value.Goals as goal

pub returns-clause-words : goal.returns-clause-words
returns-clause-words c d s = words_of_cell c.args.self.now d c.args.values.now c.words.result s c.words.ensures.words
