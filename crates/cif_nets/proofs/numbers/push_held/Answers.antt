use Rattle.std.proofs.Common.{◌∙◌}
use Rattle.cif_nets.proofs.NumberLaws.{held_step}
use Rattle.cif_nets.proofs.numbers.push_held.Goals as goal

pub loop-bits-preserved : goal.loop-bits-preserved
loop-bits-preserved c = held_step c.args.ports.now _ c.bits-item.result _ c.items.result.now _ _ c.loop-bits-test.true c.bits-item.is c.items.ensures c.in_ok-push_nets.ensures ∙ c.loop-bits.invariant
