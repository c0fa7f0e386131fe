use Rattle.cif_readers.proofs.Gathering.{more_cells}
use Rattle.cif_readers.proofs.readings.readings_of.Goals as goal

pub loop-place-preserved : goal.loop-place-preserved
loop-place-preserved c = more_cells _ _ _ _ _ c.index-cells-place.result c.operands.result.now c.loop-place-test.true c.loop-place.invariant c.in_ok-add_operands.ensures c.index-cells-place.is c.operands.ensures
