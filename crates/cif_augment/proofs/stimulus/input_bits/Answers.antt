use Rattle.std.proofs.Common.{rules, ◌∙◌, ◌<◌, length}
use Rattle.cif_defs.specs.Accepted.{netlist_of}
use Rattle.cif_defs.specs.Netlist.{no_wire}
use Rattle.cif_stimulus.specs.Names.{port_name}
use Rattle.cif_augment.proofs.Named.{place_inside, bits_read, no_bits}
use Rattle.cif_augment.proofs.stimulus.input_bits.Goals as goal

pub offset_bounds-ports-place : goal.offset_bounds-ports-place
offset_bounds-ports-place c =
    let inside : c.in-Some.place < length c.inputs-ports.result.now = place_inside port_name _ _ c.args.name.now c.in-Some.place no_wire c.inputs-ports.ensures.are c.in-Some.ensures in
    search rules

pub bounds-ports-place : goal.bounds-ports-place
bounds-ports-place c = place_inside port_name _ _ c.args.name.now c.in-Some.place no_wire c.inputs-ports.ensures.are c.in-Some.ensures

pub returns-in-Some : goal.returns-in-Some
returns-in-Some c = c.items.ensures ∙ bits_read (netlist_of c.args.netlist.now) _ c.args.name.now c.in-Some.place _ c.inputs-ports.ensures.are c.in-Some.ensures c.index-ports-place.is

pub returns-in-None : goal.returns-in-None
returns-in-None c = no_bits (netlist_of c.args.netlist.now) c.args.name.now c.in-None.ensures
