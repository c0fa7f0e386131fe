use Rattle.std.proofs.Common.{arith, ap, ◌∙◌}
use Rattle.std.specs.List.{range_with_len}
use Rattle.rule_logic.proofs.PlaceLists.{place_push}
use Rattle.rule_logic.proofs.shadow.places_from.Goals as goal

pub loop-index-preserved : goal.loop-index-preserved
loop-index-preserved c = place_push _ _ _ _ _ c.loop-index.invariant c.in_ok-push.ensures.items (cc)

pub returns : goal.returns
returns c = c.loop-index.invariant ∙ ap (range_with_len _) (omega arith)
