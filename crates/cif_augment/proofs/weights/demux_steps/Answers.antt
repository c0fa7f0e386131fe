use Rattle.std.proofs.Common.{arith, ◌≤◌, ◌+◌, ◌/◌, length}
use Rattle.cif_augment.proofs.NarrowCells.{demux_has_output, demux_is_narrow, few_steps_of, steps_are}
use Rattle.cif_augment.proofs.weights.demux_steps.Goals as goal

pub output-requires : goal.output-requires
output-requires c = demux_has_output c.args.cell.now c.requires.kind c.requires.fitted

pub overflow_add-result : goal.overflow_add-result
overflow_add-result c = (let few : c.number.result + length c.output.result.now / 4096 ≤ 4112 = few_steps_of c.args.cell.now _ _ _ (demux_is_narrow c.args.cell.now c.requires.kind c.requires.fitted) c.number.ensures c.output.ensures in omega arith)

pub returns-clause-is : goal.returns-clause-is
returns-clause-is c = steps_are c.args.cell.now _ _ _ (demux_is_narrow c.args.cell.now c.requires.kind c.requires.fitted) c.number.ensures c.output.ensures

pub returns-clause-few : goal.returns-clause-few
returns-clause-few c = few_steps_of c.args.cell.now _ _ _ (demux_is_narrow c.args.cell.now c.requires.kind c.requires.fitted) c.number.ensures c.output.ensures
