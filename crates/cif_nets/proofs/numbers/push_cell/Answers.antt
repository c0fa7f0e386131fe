use Rattle.cif_defs.specs.Table.{clocks_of, operands_of, outputs_of}
use Rattle.cif_checks.proofs.KnownCells.{joined_is}
use Rattle.cif_nets.proofs.NumberLaws.{cell_pushed}
use Rattle.cif_nets.proofs.numbers.push_cell.Goals as goal

pub returns : goal.returns
returns c =
    cell_pushed c.args.cell.now c.operands.result.now c.outputs.result.now c.clocks.result.now _ _ _ _ (joined_is operands_of c.args.cell.now _ c.operands.ensures) (joined_is outputs_of c.args.cell.now _ c.outputs.ensures) (joined_is clocks_of c.args.cell.now _ c.clocks.ensures)
    c.in_ok-push_held.ensures c.in_ok-push_held-2.ensures c.in_ok-push_held-3.ensures
