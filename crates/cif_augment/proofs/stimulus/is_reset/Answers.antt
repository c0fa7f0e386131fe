use Rattle.std.proofs.Common.{rules, ◌∙◌, ap, ◌<◌, length}
use Rattle.cif_defs.specs.Accepted.{netlist_of}
use Rattle.cif_defs.specs.Kinds.{role_of}
use Rattle.cif_defs.specs.Netlist.{no_cell}
use Rattle.cif_stimulus.specs.Names.{cell_name}
use Rattle.cif_augment.specs.Names.{is_reset_register}
use Rattle.cif_augment.proofs.Named.{place_inside, reset_read, no_reset}
use Rattle.cif_augment.proofs.stimulus.is_reset.Goals as goal

pub offset_bounds-cells-place : goal.offset_bounds-cells-place
offset_bounds-cells-place c =
    let inside : c.in-Some.place < length c.cells-cells.result.now = place_inside cell_name _ _ c.args.name.now c.in-Some.place no_cell c.cells-cells.ensures.are c.in-Some.ensures in
    search rules

pub bounds-cells-place : goal.bounds-cells-place
bounds-cells-place c = place_inside cell_name _ _ c.args.name.now c.in-Some.place no_cell c.cells-cells.ensures.are c.in-Some.ensures

pub returns-in-Some : goal.returns-in-Some
returns-in-Some c =
    c.is_reset_role.ensures
    ∙ ap is_reset_register (c.role.ensures ∙ ap role_of c.kind.ensures)
    ∙ reset_read (netlist_of c.args.netlist.now) _ c.args.name.now c.in-Some.place _ c.cells-cells.ensures.are c.cells-cells.ensures.in_order c.in-Some.ensures c.index-cells-place.is

pub returns-in-None : goal.returns-in-None
returns-in-None c = no_reset (netlist_of c.args.netlist.now) c.args.name.now c.in-None.ensures
