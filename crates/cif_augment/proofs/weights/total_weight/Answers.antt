use Rattle.cif_augment.proofs.NarrowCells.{fitted_read, memory_read}
use Rattle.cif_augment.proofs.weights.total_weight.Goals as goal

pub weight-total-requires-clause-fitted : goal.weight-total-requires-clause-fitted
weight-total-requires-clause-fitted c = fitted_read c.args.cells.now c.loop-cell.cell-index c.cell-item.result c.requires.fitted c.loop-cell-test.true c.cell-item.is

pub weight-total-requires-clause-memory : goal.weight-total-requires-clause-memory
weight-total-requires-clause-memory c = memory_read c.args.cells.now c.loop-cell.cell-index c.cell-item.result c.requires.memories c.loop-cell-test.true c.cell-item.is
