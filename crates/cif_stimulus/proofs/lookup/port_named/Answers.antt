use Rattle.std.proofs.Common.{rules, ◌∙◌, ap, ◌<◌, length}
use Rattle.std.specs.Option.{option_copied}
use Rattle.cif_defs.specs.Accepted.{netlist_of}
use Rattle.cif_defs.specs.Netlist.{no_wire}
use Rattle.cif_stimulus.specs.Names.{port_name}
use Rattle.cif_stimulus.proofs.NamePlaces.{found_none, found_some, found_inside}
use Rattle.cif_stimulus.proofs.lookup.port_named.Goals as goal

pub returns-in_err-place : goal.returns-in_err-place
returns-in_err-place c = ap option_copied c.from_residual.ensures ∙ found_none port_name _ (netlist_of c.args.netlist.now).inputs c.args.name.now c.place_by_hint.result c.inputs-ports.ensures.are c.place_by_hint.ensures c.in_err-place.was

pub offset_bounds-ports-place : goal.offset_bounds-ports-place
offset_bounds-ports-place c =
    let inside : c.in_ok-place.place < length c.inputs-ports.result.now = found_inside port_name _ c.args.name.now _ c.in_ok-place.place no_wire c.place_by_hint.ensures c.in_ok-place.was in
    search rules

pub bounds-ports-place : goal.bounds-ports-place
bounds-ports-place c = found_inside port_name _ c.args.name.now _ c.in_ok-place.place no_wire c.place_by_hint.ensures c.in_ok-place.was

pub returns : goal.returns
returns c = found_some port_name _ _ c.args.name.now _ c.in_ok-place.place _ no_wire c.inputs-ports.ensures.are c.place_by_hint.ensures c.in_ok-place.was c.index-ports-place.is
