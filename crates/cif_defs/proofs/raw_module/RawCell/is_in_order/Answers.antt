use Rattle.std.proofs.Common.{subst, sym}
use Rattle.cif_defs.proofs.EachInOrder.{ConnectionsInOrder, ParamsInOrder}
use Rattle.cif_defs.proofs.raw_module.RawCell.is_in_order.Goals as goal

pub returns-then-not-are_in_order : goal.returns-then-not-are_in_order
returns-then-not-are_in_order c = (
  λ t. absurd (cc),
  λ h.
      let found = c.are_in_order.ensures.1 (subst ParamsInOrder (sym c.items.ensures) h.parameters) in
      absurd (cc),
)

pub returns-then-not-are_in_order-2 : goal.returns-then-not-are_in_order-2
returns-then-not-are_in_order-2 c = (
  λ t. absurd (cc),
  λ h.
      let found = c.are_in_order-2.ensures.1 (subst ParamsInOrder (sym c.items-2.ensures) h.attributes) in
      absurd (cc),
)

pub returns : goal.returns
returns c = (
  λ t. record {
    parameters = subst ParamsInOrder c.items.ensures (c.are_in_order.ensures.0 c.if-not-are_in_order.false);
    attributes = subst ParamsInOrder c.items-2.ensures (c.are_in_order-2.ensures.0 c.if-not-are_in_order-2.false);
    connections = subst ConnectionsInOrder c.items-3.ensures (c.are_in_order-3.ensures.0 t);
  },
  λ h. c.are_in_order-3.ensures.1 (subst ConnectionsInOrder (sym c.items-3.ensures) h.connections),
)
