use Rattle.cif_parts.proofs.PartByPart.{planned_more}
use Rattle.cif_parts.proofs.planning.plan.Goals as goal

pub loop-part-preserved : goal.loop-part-preserved
loop-part-preserved c = planned_more c.args.case.now c.args.parts c.loop-part.part _ _ _ c.in_ok-push.ensures.items c.in_ok-part_cells.ensures c.loop-part.invariant
