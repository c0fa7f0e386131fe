use Rattle.std.proofs.Common.{◌≡◌, Option, None, IsOk, IfErr, subst, rules}
use Rattle.cif_defs.specs.Table.{ports_of}
use Rattle.cif_checks.specs.declared.fault.BuildFault.{BuildFault}
use Rattle.cif_checks.specs.Checks.{IsFirst}
use Rattle.cif_checks.specs.PortChecks.{row_fault}
use Rattle.cif_checks.proofs.CellChecks.{groups}
use Rattle.cif_checks.proofs.cells.check_all_rows.Goals as goal

pub returns-in_err-check_rows-clause-err : goal.returns-in_err-check_rows-clause-err
returns-in_err-check_rows-clause-err c =
    let P : Option BuildFault → Type 0 = λ found. IfErr c.from_residual.result (λ e. IsFirst found e) in
    subst P (groups (row_fault c.args.check c.args.cell.now c.args.kind) c.port_groups.result.0.rows.now c.port_groups.result.1.rows.now c.port_groups.result.2.rows.now (ports_of c.args.kind) c.port_groups.ensures.all) (search rules)

pub returns-in_err-check_rows-2-clause-err : goal.returns-in_err-check_rows-2-clause-err
returns-in_err-check_rows-2-clause-err c =
    let P : Option BuildFault → Type 0 = λ found. IfErr c.from_residual-in_err-check_rows-2.result (λ e. IsFirst found e) in
    subst P (groups (row_fault c.args.check c.args.cell.now c.args.kind) c.port_groups.result.0.rows.now c.port_groups.result.1.rows.now c.port_groups.result.2.rows.now (ports_of c.args.kind) c.port_groups.ensures.all) (search rules)

pub returns-clause-ok : goal.returns-clause-ok
returns-clause-ok c =
    let P : Option BuildFault → Type 0 = λ found. IsOk c.check_rows-3.result → found ≡ None in
    subst P (groups (row_fault c.args.check c.args.cell.now c.args.kind) c.port_groups.result.0.rows.now c.port_groups.result.1.rows.now c.port_groups.result.2.rows.now (ports_of c.args.kind) c.port_groups.ensures.all) (search rules)

pub returns-clause-err : goal.returns-clause-err
returns-clause-err c =
    let P : Option BuildFault → Type 0 = λ found. IfErr c.check_rows-3.result (λ e. IsFirst found e) in
    subst P (groups (row_fault c.args.check c.args.cell.now c.args.kind) c.port_groups.result.0.rows.now c.port_groups.result.1.rows.now c.port_groups.result.2.rows.now (ports_of c.args.kind) c.port_groups.ensures.all) (search rules)
