use Rattle.cif_stimulus.proofs.Starts.{starts_more, starts_all}
use Rattle.cif_stimulus.proofs.walk.started_pair.Goals as goal

pub loop-line-preserved : goal.loop-line-preserved
loop-line-preserved c = starts_more _ _ c.line-item.result _ _ _ _ _ c.loop-line-test.true c.line-item.is c.loop-line.invariant c.started_by_line-pair.ensures

pub returns : goal.returns
returns c = starts_all _ _ _ _ _ _ c.loop-line-test.false c.loop-line.invariant
