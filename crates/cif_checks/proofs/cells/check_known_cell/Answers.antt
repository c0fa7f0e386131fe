use Rattle.std.proofs.Common.{refl}
use Rattle.cif_checks.proofs.CellChecks.{narrow_outputs}
use Rattle.cif_checks.proofs.cells.check_known_cell.Goals as goal

pub check_outputs-requires-clause-few : goal.check_outputs-requires-clause-few
check_outputs-requires-clause-few c = narrow_outputs c.args.cell.now c.args.kind (c.in_ok-check_all_rows-2.ensures.ok refl) (c.in_ok-check_all_rows-4.ensures.ok refl)
