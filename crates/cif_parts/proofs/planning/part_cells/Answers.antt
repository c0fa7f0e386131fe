use Rattle.cif_parts.proofs.PartByPart.{is_part}
use Rattle.cif_parts.proofs.planning.part_cells.Goals as goal

pub returns : goal.returns
returns c = is_part c.args.case.now c.args.parts c.args.part c.in_ok-marks.marks.owned.items c.in_ok-marks.marks.evaluated.items c.in_ok-marks.marks.needed.items _ _ _ _ _ _ _ _ c.levels-levels.ensures.levelled c.in_ok-marks.ensures c.deref.ensures.value c.deref-2.ensures.value c.deref-3.ensures.value c.deref-4.ensures.value
    c.in_ok-listed_cells.ensures c.in_ok-listed_cells-2.ensures c.in_ok-cells_in_order.ensures c.in_ok-listed_cells-3.ensures
