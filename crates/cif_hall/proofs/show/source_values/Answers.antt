use Rattle.cif_cycle.proofs.Gathered.{value_push}
use Rattle.cif_hall.proofs.show.source_values.Goals as goal

pub loop-source-preserved : goal.loop-source-preserved
loop-source-preserved c = value_push _ _ _ _ _ _ _ c.loop-source-test.true c.loop-source.invariant c.in_ok-push.ensures.items c.source_pair.ensures.value
