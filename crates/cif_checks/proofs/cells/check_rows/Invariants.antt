use Rattle.std.proofs.Common.{◌≡◌, drop}
use Rattle.cif_checks.specs.Checks.{first_fault}
use Rattle.cif_checks.specs.PortChecks.{row_fault}
use Rattle.cif_checks.proofs.cells.check_rows.Given as goal

abbrev pub invariant-loop-index : goal.invariant-loop-index
invariant-loop-index l = first_fault (row_fault l.check l.cell l.kind) (drop l.index l.group.rows.now) ≡ first_fault (row_fault l.check l.cell l.kind) l.group.rows.now
