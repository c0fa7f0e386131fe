use Rattle.std.proofs.Common.{◌≡◌, List, length, get_or, arith, ap, subst, sym, ◌∙◌}
use Rattle.std.specs.Prelude.{Option}
use Rattle.cif_defs.specs.Order.{AreInOrder, port_names}
use Rattle.cif_defs.specs.declared.nets.Wire.{Wire}
use Rattle.cif_defs.specs.declared.raw_module.RawPort.{RawPort}
use Rattle.cif_cells.proofs.FindingLaws.{found_name, found_none, found_port, name_inside, port_inside}
use Rattle.cif_cells.proofs.finding.found_in.Goals as goal

pub bounds-names-place : goal.bounds-names-place
bounds-names-place c =
    let inside = name_inside c.args.raw.now c.args.wires.now c.items.result.now c.args.name.now c.in-Some.place c.items.ensures c.requires.wires (sym c.place_in_order.ensures ∙ c.in-Some.is) in
    let long : length c.as_slice-names.result.now ≡ length c.args.wires.now.names.items = ap length c.as_slice-names.ensures.value in
    omega arith

pub offset_bounds-names-place : goal.offset_bounds-names-place
offset_bounds-names-place c =
    let inside = name_inside c.args.raw.now c.args.wires.now c.items.result.now c.args.name.now c.in-Some.place c.items.ensures c.requires.wires (sym c.place_in_order.ensures ∙ c.in-Some.is) in
    let long : length c.as_slice-names.result.now ≡ length c.args.wires.now.names.items = ap length c.as_slice-names.ensures.value in
    let most = c.as_slice-names.type_inv in
    omega arith

pub returns-in-Some : goal.returns-in-Some
returns-in-Some c =
    c.kept.ensures
    ∙ found_name c.args.raw.now c.args.wires.now c.items.result.now c.args.name.now c.in-Some.place c.index-names-place.result c.items.ensures c.requires.wires
    (sym c.place_in_order.ensures ∙ c.in-Some.is) (c.index-names-place.is ∙ ap (λ (ws : List (Option Wire)). get_or ws c.in-Some.place c.index-names-place.result) c.as_slice-names.ensures.value)

abbrev PortsInOrder : List RawPort → Type 0
PortsInOrder ports = AreInOrder (port_names ports)

pub place_in_order-requires-2 : goal.place_in_order-requires-2
place_in_order-requires-2 c = subst PortsInOrder (sym c.items-2.ensures) c.requires.in_order.ports

pub bounds-ports-place : goal.bounds-ports-place
bounds-ports-place c =
    let inside = port_inside c.args.raw.now c.args.wires.now c.items-2.result.now c.args.name.now c.in-Some-place_in_order.place c.items-2.ensures c.requires.wires (sym c.place_in_order-2.ensures ∙ c.in-Some-place_in_order.is) in
    let long : length c.as_slice-ports.result.now ≡ length c.args.wires.now.ports.items = ap length c.as_slice-ports.ensures.value in
    omega arith

pub offset_bounds-ports-place : goal.offset_bounds-ports-place
offset_bounds-ports-place c =
    let inside = port_inside c.args.raw.now c.args.wires.now c.items-2.result.now c.args.name.now c.in-Some-place_in_order.place c.items-2.ensures c.requires.wires (sym c.place_in_order-2.ensures ∙ c.in-Some-place_in_order.is) in
    let long : length c.as_slice-ports.result.now ≡ length c.args.wires.now.ports.items = ap length c.as_slice-ports.ensures.value in
    let most = c.as_slice-ports.type_inv in
    omega arith

pub returns-in-Some-place_in_order : goal.returns-in-Some-place_in_order
returns-in-Some-place_in_order c =
    c.kept-in-Some-place_in_order.ensures
    ∙ found_port c.args.raw.now c.args.wires.now c.items.result.now c.items-2.result.now c.args.name.now c.in-Some-place_in_order.place c.index-ports-place.result c.items.ensures c.items-2.ensures c.requires.wires
    (sym c.place_in_order.ensures ∙ c.in_default.is) (sym c.place_in_order-2.ensures ∙ c.in-Some-place_in_order.is)
    (c.index-ports-place.is ∙ ap (λ (ws : List (Option Wire)). get_or ws c.in-Some-place_in_order.place c.index-ports-place.result) c.as_slice-ports.ensures.value)

pub returns-in-None : goal.returns-in-None
returns-in-None c =
    found_none c.args.raw.now c.items.result.now c.items-2.result.now c.args.name.now c.items.ensures c.items-2.ensures
    (sym c.place_in_order.ensures ∙ c.in_default.is) (sym c.place_in_order-2.ensures ∙ c.in-None.is)
