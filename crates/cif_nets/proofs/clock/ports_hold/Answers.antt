use Rattle.std.proofs.Common.{◌∙◌}
use Rattle.cif_nets.proofs.ClockLaws.{number_found, number_missed}
use Rattle.cif_nets.proofs.clock.ports_hold.Goals as goal

pub returns-then-holds : goal.returns-then-holds
returns-then-holds c = number_found c.args.ports.now c.loop-bits.bits-index c.args.number c.bits-item.result _ c.items.result.now c.loop-bits-test.true c.bits-item.is c.items.ensures c.if-holds.ensures ∙ c.loop-bits.invariant

pub loop-bits-preserved : goal.loop-bits-preserved
loop-bits-preserved c = number_missed c.args.ports.now c.loop-bits.bits-index c.args.number c.bits-item.result _ c.items.result.now c.loop-bits-test.true c.bits-item.is c.items.ensures c.if-holds.ensures ∙ c.loop-bits.invariant
