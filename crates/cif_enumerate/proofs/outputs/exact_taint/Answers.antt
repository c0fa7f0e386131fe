use Rattle.std.proofs.Common.{◌∙◌}
use Rattle.cif_enumerate.proofs.ExactLaws.{exact_pushed}
use Rattle.cif_enumerate.proofs.outputs.exact_taint.Goals as goal

pub loop-port-preserved : goal.loop-port-preserved
loop-port-preserved c = exact_pushed _ _ _ _ _ _ _ _ _ _ (c.deref-output-items.ensures.value ∙ c.in_ok-outputs.ensures) c.loop-port-test.true c.output-item.is c.width.ensures.value c.in_ok-exact_word.ensures c.loop-port.invariant c.in_ok-push.ensures.items
