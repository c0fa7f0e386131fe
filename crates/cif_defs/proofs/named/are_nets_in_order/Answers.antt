use Rattle.std.proofs.Common.{refl, subst, sym}
use Rattle.cif_defs.specs.Order.{IsNetInOrder}
use Rattle.cif_defs.proofs.EachInOrder.{ParamsInOrder, all_at, holds_from_end, holds_from_next}
use Rattle.cif_defs.proofs.named.are_nets_in_order.Goals as goal

pub loop-net-preserved : goal.loop-net-preserved
loop-net-preserved c = holds_from_next IsNetInOrder c.args.nets.now c.loop-net.net-index c.net-item.result c.loop-net-test.true c.net-item.is
    (subst ParamsInOrder c.items.ensures (c.are_in_order.ensures.0 c.if-not-are_in_order.false)) c.loop-net.invariant

pub returns-then-not-are_in_order : goal.returns-then-not-are_in_order
returns-then-not-are_in_order c = (
  λ t. absurd (cc),
  λ h.
      let order = all_at IsNetInOrder c.args.nets.now c.loop-net.net-index c.net-item.result c.loop-net-test.true c.net-item.is h in
      let found = c.are_in_order.ensures.1 (subst ParamsInOrder (sym c.items.ensures) order) in
      absurd (cc),
)

pub returns : goal.returns
returns c = (λ t. holds_from_end IsNetInOrder c.args.nets.now c.loop-net.net-index c.loop-net-test.false c.loop-net.invariant, λ h. refl)
