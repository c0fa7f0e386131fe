use Rattle.std.proofs.Common.{sym, subst, ap, ◌≤◌, ◌≡◌, arith, None, List, length}
use Rattle.std.specs.List.{All, filter}
use Rattle.cif_defs.specs.Accepted.{is_input}
use Rattle.cif_defs.specs.declared.raw_module.RawPort.{RawPort}
use Rattle.cif_defs.specs.declared.raw_module.RawCell.{RawCell}
use Rattle.cif_checks.specs.Checks.{cell_fault}
use Rattle.cif_nets.proofs.FewBits.{all_cells_pass}
use Rattle.cif_nets.proofs.FewInputs.{few_inputs, few_port_bits}
use Rattle.cif_nets.proofs.NetLaws.{all_driven, numbers_increase}
use Rattle.cif_nets.proofs.drives.all_drives.Goals as goal

pub record_inputs-requires-clause-rising : goal.record_inputs-requires-clause-rising
record_inputs-requires-clause-rising c = numbers_increase c.args.known.now c.args.numbers.now c.requires.numbers

pub record_cells-requires-clause-rising : goal.record_cells-requires-clause-rising
record_cells-requires-clause-rising c = numbers_increase c.args.known.now c.args.numbers.now c.requires.numbers

pub record_inputs-requires-clause-few_bits : goal.record_inputs-requires-clause-few_bits
record_inputs-requires-clause-few_bits c =
    let P : List RawPort → Type 0 = λ ps. All (λ (p : RawPort). length p.bits ≤ 4096) ps in
    subst P (sym c.ports.ensures) (few_port_bits c.args.known.now c.requires.ports)

pub record_inputs-requires-clause-few : goal.record_inputs-requires-clause-few
record_inputs-requires-clause-few c = omega (arith, ap (λ (ps : List RawPort). length (filter is_input ps)) c.ports.ensures, few_inputs c.args.known.now c.requires.ports, ap length c.requires.numbers)

pub record_cells-requires-clause-passed : goal.record_cells-requires-clause-passed
record_cells-requires-clause-passed c =
    let P : List RawCell → Type 0 = λ cs. All (λ x. cell_fault x ≡ None) cs in
    subst P (sym c.cells.ensures) (all_cells_pass c.args.known.now c.requires.cells)

pub returns : goal.returns
returns c =
    all_driven c.args.known.now c.args.numbers.now c.in_ok-drives.drives.items c.deref_mut.result.now c.record_inputs.new.drives c.deref_mut-2.result.now c.record_cells.new.drives c.in_ok-drives.drives.len c.ports.result.now c.cells.result.now
    (c.in_ok-drives.ensures.items_if_clones_equal (λ y h. h)) c.in_ok-drives.drives.ok.0 c.deref_mut.ensures.value c.ports.ensures c.record_inputs.ensures c.deref_mut-2.ensures.value c.cells.ensures c.record_cells.ensures
