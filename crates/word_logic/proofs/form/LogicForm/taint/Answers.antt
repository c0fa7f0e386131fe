use Rattle.word_logic.proofs.HeldOutputs.{taints_of_cell}
use Rattle.word_logic.proofs.form.LogicForm.taint.Goals as goal

pub returns-clause-words : goal.returns-clause-words
returns-clause-words c d s = taints_of_cell c.args.self.now d c.args.values.now c.args.taints.now c.taints.result s c.taints.ensures.words
