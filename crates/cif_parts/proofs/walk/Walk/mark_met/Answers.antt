use Rattle.std.proofs.Common.{◌∙◌, ◌<◌, sym, length, arith}
use Rattle.cif_defs.specs.Accepted.{netlist_of}
use Rattle.cif_parts.proofs.Marks.{mark_one}
use Rattle.cif_parts.proofs.Meeting.{met_inside}
use Rattle.cif_parts.proofs.walk.Walk.mark_met.Goals as goal

pub bounds-marks-cell : goal.bounds-marks-cell
bounds-marks-cell c =
    let inside : c.in-Some.cell < length (netlist_of c.args.netlist.now).cells = met_inside c.args.self (netlist_of c.args.netlist.now) c.args.source c.in-Some.cell c.requires.wired (sym c.met.ensures ∙ c.in-Some.is) in
    omega arith

pub returns-in-Some : goal.returns-in-Some
returns-in-Some c =
    let inside : c.in-Some.cell < length (netlist_of c.args.netlist.now).cells = met_inside c.args.self (netlist_of c.args.netlist.now) c.args.source c.in-Some.cell c.requires.wired (sym c.met.ensures ∙ c.in-Some.is) in
    mark_one c.args.marks.now c.in-Some.cell _ (sym c.met.ensures ∙ c.in-Some.is) (omega arith)
