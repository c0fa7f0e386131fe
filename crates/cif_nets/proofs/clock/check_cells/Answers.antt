use Rattle.std.proofs.Common.{refl, ◌∙◌}
use Rattle.std.proofs.lemmas.Result.{err_from_is_err_and}
use Rattle.cif_nets.specs.Clocks.{edge_fault, uses_of}
use Rattle.cif_checks.proofs.FirstFaults.{parts_first, parts_step}
use Rattle.cif_nets.proofs.clock.check_cells.Goals as goal

pub returns-in_err-check_cell-clause-err : goal.returns-in_err-check_cell-clause-err
returns-in_err-check_cell-clause-err c =
    let p = err_from_is_err_and c.from_residual.result c.from_residual.ensures.1 in
    rw (p.1, p.2) (parts_first (edge_fault c.args.ports.now c.args.wanted.edge) uses_of c.args.cells.now c.loop-cell.cell-index c.cell-item.result _ _ _ c.loop-cell-test.true c.cell-item.is c.loop-cell.invariant c.in_err-check_cell.ensures.err)

pub loop-cell-preserved : goal.loop-cell-preserved
loop-cell-preserved c = parts_step (edge_fault c.args.ports.now c.args.wanted.edge) uses_of c.args.cells.now c.loop-cell.cell-index c.cell-item.result _ c.loop-cell-test.true c.cell-item.is (c.in_ok-check_cell.ensures.ok refl) ∙ c.loop-cell.invariant
