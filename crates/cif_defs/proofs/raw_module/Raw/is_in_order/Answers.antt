use Rattle.std.proofs.Common.{subst, sym}
use Rattle.std.specs.List.{AllByRecursion}
use Rattle.cif_defs.specs.Order.{IsCellInOrder, IsNetInOrder}
use Rattle.cif_defs.proofs.EachInOrder.{CellNamesInOrder, NetNamesInOrder, ParamsInOrder, PortsInOrder}
use Rattle.cif_defs.proofs.raw_module.Raw.is_in_order.Goals as goal

pub returns-then-not-are_in_order : goal.returns-then-not-are_in_order
returns-then-not-are_in_order c = (
  λ t. absurd (cc),
  λ h.
      let found = c.are_in_order.ensures.1 (subst ParamsInOrder (sym c.items.ensures) h.attributes) in
      absurd (cc),
)

pub returns-then-not-are_in_order-2 : goal.returns-then-not-are_in_order-2
returns-then-not-are_in_order-2 c = (
  λ t. absurd (cc),
  λ h.
      let found = c.are_in_order-2.ensures.1 (subst PortsInOrder (sym c.items-2.ensures) h.ports) in
      absurd (cc),
)

pub returns-then-not-are_in_order-3 : goal.returns-then-not-are_in_order-3
returns-then-not-are_in_order-3 c = (
  λ t. absurd (cc),
  λ h.
      let found = c.are_in_order-3.ensures.1 (subst CellNamesInOrder (sym c.items-3.ensures) h.cells) in
      absurd (cc),
)

pub returns-then-not-are_cells_in_order : goal.returns-then-not-are_cells_in_order
returns-then-not-are_cells_in_order c = (
  λ t. absurd (cc),
  λ h.
      let found = c.are_cells_in_order.ensures.1 (subst (AllByRecursion IsCellInOrder) (sym c.items-4.ensures) h.each_cell) in
      absurd (cc),
)

pub returns-then-not-are_in_order-4 : goal.returns-then-not-are_in_order-4
returns-then-not-are_in_order-4 c = (
  λ t. absurd (cc),
  λ h.
      let found = c.are_in_order-4.ensures.1 (subst NetNamesInOrder (sym c.items-5.ensures) h.nets) in
      absurd (cc),
)

pub returns : goal.returns
returns c = (
  λ t. record {
    attributes = subst ParamsInOrder c.items.ensures (c.are_in_order.ensures.0 c.if-not-are_in_order.false);
    ports = subst PortsInOrder c.items-2.ensures (c.are_in_order-2.ensures.0 c.if-not-are_in_order-2.false);
    cells = subst CellNamesInOrder c.items-3.ensures (c.are_in_order-3.ensures.0 c.if-not-are_in_order-3.false);
    each_cell = subst (AllByRecursion IsCellInOrder) c.items-4.ensures (c.are_cells_in_order.ensures.0 c.if-not-are_cells_in_order.false);
    nets = subst NetNamesInOrder c.items-5.ensures (c.are_in_order-4.ensures.0 c.if-not-are_in_order-4.false);
    each_net = subst (AllByRecursion IsNetInOrder) c.items-6.ensures (c.are_nets_in_order.ensures.0 t);
  },
  λ h. c.are_nets_in_order.ensures.1 (subst (AllByRecursion IsNetInOrder) (sym c.items-6.ensures) h.each_net),
)
