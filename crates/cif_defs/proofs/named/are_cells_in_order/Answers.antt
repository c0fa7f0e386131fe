use Rattle.std.proofs.Common.{refl}
use Rattle.cif_defs.specs.Order.{IsCellInOrder}
use Rattle.cif_defs.proofs.EachInOrder.{holds_from_end, holds_from_next}
use Rattle.cif_defs.proofs.named.are_cells_in_order.Goals as goal

pub loop-cell-preserved : goal.loop-cell-preserved
loop-cell-preserved c = holds_from_next IsCellInOrder c.args.cells.now c.loop-cell.cell-index c.cell-item.result c.loop-cell-test.true c.cell-item.is (c.is_in_order.ensures.0 c.if-not-is_in_order.false) c.loop-cell.invariant

pub returns : goal.returns
returns c = (λ t. holds_from_end IsCellInOrder c.args.cells.now c.loop-cell.cell-index c.loop-cell-test.false c.loop-cell.invariant, λ h. refl)
