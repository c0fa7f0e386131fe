use Rattle.std.proofs.Common.{◌≤◌, arith}
use Rattle.cif_checks.specs.Checks.{memory_size}
use Rattle.cif_checks.proofs.CellChecks.{cell_small_at, sum_step}
use Rattle.cif_checks.proofs.cells.memory_bits.Goals as goal

pub overflow_add-total : goal.overflow_add-total
overflow_add-total c =
    let small : memory_size c.cell-item.result ≤ 17592186044416 = cell_small_at _ _ _ c.loop-cell-test.true c.cell-item.is c.requires.checked in
    omega (arith, c.memory_size-total.ensures, c.loop-cell.invariant.bound, c.requires.few)

pub loop-cell-preserved : goal.loop-cell-preserved
loop-cell-preserved c =
    let small : memory_size c.cell-item.result ≤ 17592186044416 = cell_small_at _ _ _ c.loop-cell-test.true c.cell-item.is c.requires.checked in
    record {
      counted = omega (arith, c.loop-cell.invariant.counted, c.memory_size-total.ensures, sum_step c.args.cells.now c.loop-cell.cell-index c.cell-item.result c.loop-cell-test.true c.cell-item.is);
      bound = omega (arith, c.memory_size-total.ensures, c.loop-cell.invariant.bound);
    }
