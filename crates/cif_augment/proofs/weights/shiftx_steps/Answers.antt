use Rattle.std.proofs.Common.{arith}
use Rattle.cif_augment.proofs.NarrowCells.{shiftx_is_narrow}
use Rattle.cif_augment.proofs.weights.shiftx_steps.Goals as goal

pub overflow_add-result : goal.overflow_add-result
overflow_add-result c = (let few = shiftx_is_narrow c.args.cell.now c.requires.kind c.requires.fitted in omega arith)

pub returns-clause-few : goal.returns-clause-few
returns-clause-few c = (let few = shiftx_is_narrow c.args.cell.now c.requires.kind c.requires.fitted in omega arith)
