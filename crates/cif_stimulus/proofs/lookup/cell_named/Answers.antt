use Rattle.std.proofs.Common.{rules, ◌∙◌, ap, ◌<◌, length}
use Rattle.std.specs.Option.{option_copied}
use Rattle.cif_defs.specs.Accepted.{netlist_of}
use Rattle.cif_defs.specs.Netlist.{no_cell}
use Rattle.cif_stimulus.specs.Names.{cell_name}
use Rattle.cif_stimulus.proofs.NamePlaces.{found_none, found_some, found_inside}
use Rattle.cif_stimulus.proofs.lookup.cell_named.Goals as goal

pub returns-in_err-place : goal.returns-in_err-place
returns-in_err-place c = ap option_copied c.from_residual.ensures ∙ found_none cell_name _ (netlist_of c.args.netlist.now).cells c.args.name.now c.place_by_hint.result c.cells-cells.ensures.are c.place_by_hint.ensures c.in_err-place.was

pub offset_bounds-cells-place : goal.offset_bounds-cells-place
offset_bounds-cells-place c =
    let inside : c.in_ok-place.place < length c.cells-cells.result.now = found_inside cell_name _ c.args.name.now _ c.in_ok-place.place no_cell c.place_by_hint.ensures c.in_ok-place.was in
    search rules

pub bounds-cells-place : goal.bounds-cells-place
bounds-cells-place c = found_inside cell_name _ c.args.name.now _ c.in_ok-place.place no_cell c.place_by_hint.ensures c.in_ok-place.was

pub returns : goal.returns
returns c = found_some cell_name _ _ c.args.name.now _ c.in_ok-place.place _ no_cell c.cells-cells.ensures.are c.place_by_hint.ensures c.in_ok-place.was c.index-cells-place.is
