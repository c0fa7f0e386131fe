use Rattle.cif_pieces.specs.Plans.{IsPlanOf}
use Rattle.cif_parts_examples.proofs.parts.assert_cycles.Given as goal

abbrev pub invariant-loop-cycle : goal.invariant-loop-cycle
invariant-loop-cycle g l = IsPlanOf l.frame.case l.plan
