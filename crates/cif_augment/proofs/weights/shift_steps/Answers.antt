use Rattle.std.proofs.Common.{arith}
use Rattle.cif_augment.proofs.NarrowCells.{shift_is_short}
use Rattle.cif_augment.proofs.weights.shift_steps.Goals as goal

pub overflow_add-result : goal.overflow_add-result
overflow_add-result c = (let few = shift_is_short c.args.cell.now c.requires.shift c.requires.fitted in omega arith)

pub returns-clause-few : goal.returns-clause-few
returns-clause-few c = (let few = shift_is_short c.args.cell.now c.requires.shift c.requires.fitted in omega arith)
