use Rattle.std.proofs.Common.{ap, map, refl, subst, sym, ◌∙◌, ◌≤◌, List, length}
use Rattle.std.specs.List.{All}
use Rattle.cif_defs.specs.RawModule.{port_bits}
use Rattle.cif_defs.specs.Table.{operands_of}
use Rattle.cif_defs.specs.declared.kinds.PortRow.{PortRow}
use Rattle.cif_checks.specs.Known.{bits_at}
use Rattle.cif_checks.proofs.KnownCells.{ports_are}
use Rattle.cif_nets.proofs.FewBits.{few_at_operands}
use Rattle.cif_nets.proofs.reads.check_cell.Goals as goal

pub check_operands-requires-clause-known : goal.check_operands-requires-clause-known
check_operands-requires-clause-known c = ports_are operands_of c.args.cell.now c.in-Some.kind (bits_at operands_of c.args.cell.now) refl (sym c.in-Some.ensures) ∙ ap (map (port_bits c.args.cell.now)) (sym c.operands.ensures)

pub check_operands-requires-clause-few : goal.check_operands-requires-clause-few
check_operands-requires-clause-few c =
    let P : List PortRow → Type 0 = λ rs. All (λ r. length (port_bits c.args.cell.now r) ≤ 65536) rs in
    subst P (sym c.operands.ensures) (few_at_operands c.args.cell.now c.in-Some.kind c.requires (sym c.in-Some.ensures))
