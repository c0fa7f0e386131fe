use Rattle.std.proofs.Common.{arith}
use Rattle.cif_augment.proofs.NarrowCells.{lut_is_narrow}
use Rattle.cif_augment.proofs.weights.lut_steps.Goals as goal

pub returns-clause-few : goal.returns-clause-few
returns-clause-few c = (let few = lut_is_narrow c.args.cell.now c.requires.kind c.requires.fitted in omega arith)
