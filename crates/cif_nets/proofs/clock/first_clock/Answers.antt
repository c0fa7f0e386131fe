use Rattle.std.proofs.Common.{◌∙◌}
use Rattle.cif_nets.proofs.ClockLaws.{edge_found, edge_step}
use Rattle.cif_nets.proofs.clock.first_clock.Goals as goal

pub returns-in-Some : goal.returns-in-Some
returns-in-Some c = edge_found c.args.cells.now c.loop-cell.cell-index c.cell-item.result _ c.in-Some.edge c.loop-cell-test.true c.cell-item.is c.in-Some.ensures ∙ c.loop-cell.invariant

pub loop-cell-preserved : goal.loop-cell-preserved
loop-cell-preserved c = edge_step c.args.cells.now c.loop-cell.cell-index c.cell-item.result _ c.loop-cell-test.true c.cell-item.is c.in_default.ensures ∙ c.loop-cell.invariant
