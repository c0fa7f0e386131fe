use Rattle.std.proofs.Common.{arith, ◌≤◌, ◌+◌, ◌/◌, length}
use Rattle.cif_augment.proofs.NarrowCells.{bmux_has_operand, bmux_is_narrow, few_steps_of, steps_are}
use Rattle.cif_augment.proofs.weights.bmux_steps.Goals as goal

pub operand-requires : goal.operand-requires
operand-requires c = bmux_has_operand c.args.cell.now c.requires.kind c.requires.fitted

pub overflow_add-result : goal.overflow_add-result
overflow_add-result c = (let few : c.number.result + length c.operand.result.now / 4096 ≤ 4112 = few_steps_of c.args.cell.now _ _ _ (bmux_is_narrow c.args.cell.now c.requires.kind c.requires.fitted) c.number.ensures c.operand.ensures in omega arith)

pub returns-clause-is : goal.returns-clause-is
returns-clause-is c = steps_are c.args.cell.now _ _ _ (bmux_is_narrow c.args.cell.now c.requires.kind c.requires.fitted) c.number.ensures c.operand.ensures

pub returns-clause-few : goal.returns-clause-few
returns-clause-few c = few_steps_of c.args.cell.now _ _ _ (bmux_is_narrow c.args.cell.now c.requires.kind c.requires.fitted) c.number.ensures c.operand.ensures
