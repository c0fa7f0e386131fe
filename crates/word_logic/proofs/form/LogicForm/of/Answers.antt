use Rattle.word_logic.proofs.LogicCells.{stands}
use Rattle.word_logic.proofs.form.LogicForm.of.Goals as goal

pub returns : goal.returns
returns c = stands c.args.cell.now c.form_of.result c.form_of.ensures c.requires.covered c.requires.fitted c.requires.narrow
