use Rattle.cif_defs.specs.Order.{IsCellInOrder}
use Rattle.cif_defs.proofs.EachInOrder.{HoldsFrom}
use Rattle.cif_defs.proofs.named.are_cells_in_order.Given as goal

abbrev pub invariant-loop-cell : goal.invariant-loop-cell
invariant-loop-cell l = HoldsFrom IsCellInOrder l.cells l.cell-index
