use Rattle.std.proofs.Common.{rules, ap, ◌∙◌, ◌<◌, length}
use Rattle.cif_defs.specs.Accepted.{netlist_of}
use Rattle.cif_stimulus.specs.Names.{target_of}
use Rattle.cif_stimulus.proofs.LinesRead.{line_inside, line_read}
use Rattle.cif_stimulus.proofs.stimulus.Stimulus.target.Goals as goal

pub bounds-lines-number : goal.bounds-lines-number
bounds-lines-number c = line_inside c.lines-lines.result.now c.args.self.now.lines c.args.number c.lines-lines.ensures.value c.requires

pub offset_bounds-lines-number : goal.offset_bounds-lines-number
offset_bounds-lines-number c =
    let inside : c.args.number < length c.lines-lines.result.now = line_inside c.lines-lines.result.now c.args.self.now.lines c.args.number c.lines-lines.ensures.value c.requires in
    search rules

pub returns : goal.returns
returns c =
    c.target.ensures
    ∙ ap (target_of (netlist_of c.args.netlist.now).inputs) (line_read c.lines-lines.result.now c.args.self.now.lines c.args.number c.index-lines-number.result c.lines-lines.ensures.value c.requires c.index-lines-number.is)
