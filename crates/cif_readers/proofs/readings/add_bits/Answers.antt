use Rattle.cif_readers.proofs.Gathering.{more_bits}
use Rattle.cif_readers.proofs.readings.add_bits.Goals as goal

pub loop-source-preserved : goal.loop-source-preserved
loop-source-preserved c = more_bits _ _ _ _ _ _ _ c.loop-source-test.true c.loop-source.invariant c.in_ok-add_source.ensures
