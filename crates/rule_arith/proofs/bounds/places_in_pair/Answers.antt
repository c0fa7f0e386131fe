-- One more place.
use Rattle.rule_arith.proofs.BoundValues.{place_push}
use Rattle.rule_arith.proofs.bounds.places_in_pair.Goals as goal

pub loop-place-preserved : goal.loop-place-preserved
loop-place-preserved c = place_push _ _ _ _ _ c.loop-place.invariant c.in_ok-push.ensures.items c.place_in_pair.ensures
