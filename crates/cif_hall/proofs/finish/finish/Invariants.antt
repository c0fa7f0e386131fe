use Rattle.cif_kept.specs.Closing.{IsInHand, to_do}
use Rattle.cif_hall.proofs.finish.finish.Given as goal

abbrev pub invariant-loop-alloc : goal.invariant-loop-alloc
invariant-loop-alloc g l = IsInHand g.N.Run.case l.kept.core

abbrev pub decreases-loop-alloc : goal.decreases-loop-alloc
decreases-loop-alloc g l = to_do g.N.Run.case g.N.Run.plan.parts l.kept.core
