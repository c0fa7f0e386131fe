use Rattle.cif_readers.proofs.Gathering.{more_operands}
use Rattle.cif_readers.proofs.readings.add_operands.Goals as goal

pub loop-sources-preserved : goal.loop-sources-preserved
loop-sources-preserved c = more_operands _ _ _ _ _ _ c.sources-item.result c.items.result.now c.loop-sources-test.true c.loop-sources.invariant c.in_ok-add_bits.ensures c.sources-item.is c.items.ensures
