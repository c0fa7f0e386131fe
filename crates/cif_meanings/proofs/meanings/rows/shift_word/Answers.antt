use Rattle.cif_defs.specs.Cells.{words_by}
use Rattle.cif_defs.specs.Meanings.{shl_word, shr_word, sshr_word, shift_word, shiftx_word}
use Rattle.cif_defs.specs.declared.kinds.Kind.TheVariants.{Shr, Sshr, Shift, Shiftx}
use Rattle.std.proofs.Common.{refl, ap, ◌∙◌}
use Rattle.cif_meanings.specs.CellPorts.{is_shift}
use Rattle.cif_meanings.proofs.RowLaws.{alone, by_kind, row_4, row_5, left_shift, last_shift}
use Rattle.cif_meanings.proofs.meanings.rows.shift_word.Goals as goal

pub returns-in-Shl : goal.returns-in-Shl
returns-in-Shl c =
    alone _ _ _ (row_4 shl_word _ _ _ _ _ _ _ _ _ c.small_number-width.ensures c.is_signed-a_signed.ensures c.operand-a.ensures c.operand-b.ensures (by_kind c.args.cell.now c.args.operands.now _ _ _ c.kind.ensures refl (left_shift _ c.args.cell.now c.args.operands.now c.in-Shl.is)))
    c.shl_word.ensures

pub returns-in-Shr : goal.returns-in-Shr
unfolding words_by
returns-in-Shr c =
    alone _ _ _ (row_4 shr_word _ _ _ _ _ _ _ _ _ c.small_number-width.ensures c.is_signed-a_signed.ensures c.operand-a.ensures c.operand-b.ensures (by_kind c.args.cell.now c.args.operands.now _ Shr _ c.kind.ensures c.in-Shr.is refl))
    c.shr_word.ensures

pub returns-in-Sshr : goal.returns-in-Sshr
unfolding words_by
returns-in-Sshr c =
    alone _ _ _ (row_4 sshr_word _ _ _ _ _ _ _ _ _ c.small_number-width.ensures c.is_signed-a_signed.ensures c.operand-a.ensures c.operand-b.ensures (by_kind c.args.cell.now c.args.operands.now _ Sshr _ c.kind.ensures c.in-Sshr.is refl))
    c.sshr_word.ensures

pub returns-in-Shift : goal.returns-in-Shift
unfolding words_by
returns-in-Shift c =
    alone _ _ _ (row_5 shift_word _ _ _ _ _ _ _ _ _ _ _ c.small_number-width.ensures c.is_signed-a_signed.ensures c.is_signed-b_signed.ensures c.operand-a.ensures c.operand-b.ensures (by_kind c.args.cell.now c.args.operands.now _ Shift _ c.kind.ensures c.in-Shift.is refl))
    c.shift_word.ensures

pub returns-in_default : goal.returns-in_default
unfolding words_by
returns-in_default c =
    let d = c.in_default in
    alone _ _ _
    (row_4 shiftx_word _ _ _ _ _ _ _ _ _ c.small_number-width.ensures c.is_signed-b_signed.ensures c.operand-a.ensures c.operand-b.ensures (by_kind c.args.cell.now c.args.operands.now _ Shiftx _ c.kind.ensures
    (last_shift _ (ap is_shift c.kind.ensures ∙ c.requires.kind) d.not-Shl d.not-Sshl d.not-Shr d.not-Sshr d.not-Shift) refl))
    c.shiftx_word.ensures
