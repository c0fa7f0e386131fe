use Rattle.std.proofs.Common.{◌∙◌, inl, inr, sym}
use Rattle.word_choices.proofs.CellForms.{bmux_stands, demux_stands, indexed_stands, mux_stands, offset_stands, pmux_stands, shl_stands, shr_stands, sign_read, sshl_stands, sshr_stands}
use Rattle.word_choices.proofs.form.SelectForm.of.Goals as goal

pub returns-in-Mux : goal.returns-in-Mux
returns-in-Mux c = mux_stands c.args.cell.now c.mux_width.result c.requires.fitted c.requires.narrow (sym c.kind.ensures ∙ c.in-Mux.is) c.mux_width.ensures

pub returns-in-Pmux : goal.returns-in-Pmux
returns-in-Pmux c = pmux_stands c.args.cell.now c.chain_of.result c.requires.fitted (sym c.kind.ensures ∙ c.in-Pmux.is) c.chain_of.ensures.width c.chain_of.ensures.selects

pub returns-in-Bmux : goal.returns-in-Bmux
returns-in-Bmux c = bmux_stands c.args.cell.now c.blocks_of.result c.requires.fitted (sym c.kind.ensures ∙ c.in-Bmux.is) c.blocks_of.ensures

pub returns-in-Demux : goal.returns-in-Demux
returns-in-Demux c = demux_stands c.args.cell.now c.blocks_of-in-Demux.result c.requires.fitted (sym c.kind.ensures ∙ c.in-Demux.is) c.blocks_of-in-Demux.ensures

pub returns-in-Shl : goal.returns-in-Shl
returns-in-Shl c = elim c.in-Shl.is [
  | inl e ↦ shl_stands c.args.cell.now c.shift_of.result c.requires.fitted (sym c.kind.ensures ∙ e) (sign_read c.args.cell.now c.shift_of.result c.is_signed.result c.is_signed.ensures c.shift_of.ensures)
  | inr e ↦ sshl_stands c.args.cell.now c.shift_of.result c.requires.fitted (sym c.kind.ensures ∙ e) (sign_read c.args.cell.now c.shift_of.result c.is_signed.result c.is_signed.ensures c.shift_of.ensures)
]

pub returns-in-Shr : goal.returns-in-Shr
returns-in-Shr c =
    shr_stands c.args.cell.now c.shift_of-in-Shr.result c.requires.fitted (sym c.kind.ensures ∙ c.in-Shr.is)
    (sign_read c.args.cell.now c.shift_of-in-Shr.result c.is_signed-in-Shr.result c.is_signed-in-Shr.ensures c.shift_of-in-Shr.ensures)

pub returns-in-Sshr : goal.returns-in-Sshr
returns-in-Sshr c =
    sshr_stands c.args.cell.now c.shift_of-in-Sshr.result c.requires.fitted (sym c.kind.ensures ∙ c.in-Sshr.is)
    (sign_read c.args.cell.now c.shift_of-in-Sshr.result c.is_signed-in-Sshr.result c.is_signed-in-Sshr.ensures c.shift_of-in-Sshr.ensures)

pub returns-in-Shift : goal.returns-in-Shift
returns-in-Shift c =
    offset_stands c.args.cell.now c.shift_of-in-Shift.result c.requires.fitted (sym c.kind.ensures ∙ c.in-Shift.is)
    (sign_read c.args.cell.now c.shift_of-in-Shift.result c.is_signed-in-Shift.result c.is_signed-in-Shift.ensures c.shift_of-in-Shift.ensures)

pub returns-in-Shiftx : goal.returns-in-Shiftx
returns-in-Shiftx c = indexed_stands c.args.cell.now c.shift_of-in-Shiftx.result c.requires.fitted (sym c.kind.ensures ∙ c.in-Shiftx.is) c.shift_of-in-Shiftx.ensures
