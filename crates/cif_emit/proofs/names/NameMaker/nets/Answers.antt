use Rattle.cif_emit.proofs.NewNets.{one_more_net}
use Rattle.cif_emit.proofs.names.NameMaker.nets.Goals as goal

pub loop-preserved : goal.loop-preserved
loop-preserved c = one_more_net _ _ _ _ _ _ _ c.loop.invariant c.in_ok-number.ensures.ok.0 c.in_ok-number.ensures.ok.1 c.in_ok-push.ensures.items
