use Rattle.std.proofs.Common.{ap, refl, subst, sym, ◌∙◌, ◌≤◌, ◌≡◌, List, length, None}
use Rattle.std.specs.List.{All, filter}
use Rattle.std.proofs.lemmas.Result.{err_from_is_err_and}
use Rattle.cif_defs.specs.Accepted.{is_output}
use Rattle.cif_defs.specs.declared.raw_module.Raw.{Raw}
use Rattle.cif_defs.specs.declared.raw_module.RawCell.{RawCell}
use Rattle.cif_defs.specs.declared.raw_module.RawPort.{RawPort}
use Rattle.cif_nets.specs.CellReads.{cell_reads}
use Rattle.cif_checks.specs.Checks.{cell_fault, first_fault, shown_fault}
use Rattle.cif_nets.proofs.FewBits.{all_cells_pass}
use Rattle.cif_nets.proofs.FewInputs.{few_port_bits}
use Rattle.cif_checks.proofs.FirstFaults.{joined_first, joined_next, joined_ok}
use Rattle.cif_nets.proofs.ReadLaws.{reads_in_parts}
use Rattle.cif_nets.proofs.reads.check_reads.Goals as goal

pub check_cells-requires : goal.check_cells-requires
check_cells-requires c =
    let P : List RawCell → Type 0 = λ cs. All (λ x. cell_fault x ≡ None) cs in
    subst P (sym (c.cells.ensures ∙ ap (λ (r : Raw). r.cells) c.known-known.ensures.is)) (all_cells_pass c.args.nets.now c.known-known.ensures.cells)

pub check_ports-requires : goal.check_ports-requires
check_ports-requires c =
    let P : List RawPort → Type 0 = λ ps. All (λ (p : RawPort). length p.bits ≤ 4096) ps in
    subst P (sym (c.ports.ensures ∙ ap (λ (r : Raw). r.ports) c.known-known.ensures.is)) (few_port_bits c.args.nets.now c.known-known.ensures.ports)

pub returns-in_err-check_cells-clause-err : goal.returns-in_err-check_cells-clause-err
returns-in_err-check_cells-clause-err c =
    let p = err_from_is_err_and c.from_residual.result c.from_residual.ensures.1 in
    rw (p.1, p.2) (joined_first _ (first_fault (cell_reads c.args.nets.now) c.cells.result.now) (first_fault (shown_fault c.args.nets.now) (filter is_output c.known-known.result.now.ports)) _
    (reads_in_parts c.args.nets.now c.known-known.result.now c.cells.result.now c.known-known.result.now.ports c.known-known.ensures.is c.cells.ensures refl) c.in_err-check_cells.ensures.err)

pub returns-clause-ok : goal.returns-clause-ok
returns-clause-ok c h =
    joined_ok _ (first_fault (cell_reads c.args.nets.now) c.cells.result.now) (first_fault (shown_fault c.args.nets.now) (filter is_output c.ports.result.now))
    (reads_in_parts c.args.nets.now c.known-known.result.now c.cells.result.now c.ports.result.now c.known-known.ensures.is c.cells.ensures c.ports.ensures) (c.in_ok-check_cells.ensures.ok refl) (c.check_ports.ensures.ok h)

pub returns-clause-err : goal.returns-clause-err
returns-clause-err c =
    joined_next _ (first_fault (cell_reads c.args.nets.now) c.cells.result.now) (first_fault (shown_fault c.args.nets.now) (filter is_output c.ports.result.now)) c.check_ports.result
    (reads_in_parts c.args.nets.now c.known-known.result.now c.cells.result.now c.ports.result.now c.known-known.ensures.is c.cells.ensures c.ports.ensures) (c.in_ok-check_cells.ensures.ok refl) c.check_ports.ensures.err
