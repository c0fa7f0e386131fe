use Rattle.std.proofs.Common.{◌∙◌, List, ap, length}
use Rattle.cif_defs.specs.Cells.{Cell}
use Rattle.cif_parts.proofs.PartByPart.{part_marks}
use Rattle.cif_parts.proofs.planning.part_marks.Goals as goal

pub returns : goal.returns
returns c = part_marks c.args.case.now c.netlist-netlist.result.now c.args.parts c.args.part _ c.in_ok-owned.owned.items c.deref.result.now c.in_ok-evaluated.evaluated.items c.deref-2.result.now c.in_ok-needed.needed.items c.netlist-netlist.ensures (ap (λ (xs : List Cell). length xs) c.cells.ensures.are)
    c.in_ok-owned.ensures c.deref.ensures.value c.in_ok-evaluated.ensures.marks c.deref-2.ensures.value c.in_ok-needed.ensures

pub needed_marks-requires : goal.needed_marks-requires
needed_marks-requires c = ap length c.deref-2.ensures.value ∙ c.in_ok-evaluated.ensures.as_many
