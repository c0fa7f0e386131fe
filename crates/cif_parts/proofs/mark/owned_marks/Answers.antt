use Rattle.std.proofs.Common.{refl}
use Rattle.cif_parts.proofs.Marks.{owned_more}
use Rattle.cif_parts.proofs.mark.owned_marks.Goals as goal

pub loop-number-preserved : goal.loop-number-preserved
loop-number-preserved c = owned_more c.args.cells c.args.parts c.args.part c.loop-number.number c.owner.result _ _ _ c.in_ok-push.ensures.items c.owner.ensures.is refl c.loop-number.invariant
