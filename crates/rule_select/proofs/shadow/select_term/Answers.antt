-- Each kind has its formula.
use Rattle.std.proofs.Common.{sym, ◌∙◌}
use Rattle.rule_select.proofs.SelectLaws.{mux_is, shl_is, sshl_is, shr_is, sshr_is, shift_is, shiftx_is, bmux_is, demux_is, lut_is, pmux_is}
use Rattle.rule_select.proofs.SelectionCells.{bmux_blocks, demux_blocks, lut_few, pmux_chain}
use Rattle.rule_select.proofs.ShiftCells.{shl_narrow, sshl_narrow, shr_narrow, sshr_narrow, shift_narrow, shiftx_narrow}
use Rattle.rule_select.proofs.shadow.select_term.Goals as goal

pub left_term-requires : goal.left_term-requires
left_term-requires c = shl_narrow c.args.cell.now c.requires.fitted (sym c.in-Shl.ensures)

pub left_term-requires-in-Sshl : goal.left_term-requires-in-Sshl
left_term-requires-in-Sshl c = sshl_narrow c.args.cell.now c.requires.fitted (sym c.in-Sshl.ensures)

pub right_term-requires : goal.right_term-requires
right_term-requires c = shr_narrow c.args.cell.now c.requires.fitted (sym c.in-Shr.ensures)

pub signed_term-requires : goal.signed_term-requires
signed_term-requires c = sshr_narrow c.args.cell.now c.requires.fitted (sym c.in-Sshr.ensures)

pub returns-in_ok-left_term-in-Shl : goal.returns-in_ok-left_term-in-Shl
returns-in_ok-left_term-in-Shl c = c.in_ok-left_term-in-Shl.ensures ∙ sym (shl_is c.args.cell.now (sym c.in-Shl.ensures))

pub returns-in_ok-left_term-in-Sshl : goal.returns-in_ok-left_term-in-Sshl
returns-in_ok-left_term-in-Sshl c = c.in_ok-left_term-in-Sshl.ensures ∙ sym (sshl_is c.args.cell.now (sym c.in-Sshl.ensures))

pub returns-in_ok-right_term-in-Shr : goal.returns-in_ok-right_term-in-Shr
returns-in_ok-right_term-in-Shr c = c.in_ok-right_term-in-Shr.ensures ∙ sym (shr_is c.args.cell.now (sym c.in-Shr.ensures))

pub returns-in_ok-signed_term-in-Sshr : goal.returns-in_ok-signed_term-in-Sshr
returns-in_ok-signed_term-in-Sshr c = c.in_ok-signed_term-in-Sshr.ensures ∙ sym (sshr_is c.args.cell.now (sym c.in-Sshr.ensures))

pub returns-in_ok-mux_term-in-Mux : goal.returns-in_ok-mux_term-in-Mux
returns-in_ok-mux_term-in-Mux c = c.in_ok-mux_term-in-Mux.ensures ∙ sym (mux_is c.args.cell.now (sym c.in-Mux.ensures))

pub either_shift_term-requires : goal.either_shift_term-requires
either_shift_term-requires c = shift_narrow c.args.cell.now c.requires.fitted (sym c.in-Shift.ensures)

pub returns-in_ok-either_shift_term-in-Shift : goal.returns-in_ok-either_shift_term-in-Shift
returns-in_ok-either_shift_term-in-Shift c = c.in_ok-either_shift_term-in-Shift.ensures ∙ sym (shift_is c.args.cell.now (sym c.in-Shift.ensures))

pub indexed_term-requires : goal.indexed_term-requires
indexed_term-requires c = shiftx_narrow c.args.cell.now c.requires.fitted (sym c.in-Shiftx.ensures)

pub returns-in_ok-indexed_term-in-Shiftx : goal.returns-in_ok-indexed_term-in-Shiftx
returns-in_ok-indexed_term-in-Shiftx c = c.in_ok-indexed_term-in-Shiftx.ensures ∙ sym (shiftx_is c.args.cell.now (sym c.in-Shiftx.ensures))

pub bmux_term-requires : goal.bmux_term-requires
bmux_term-requires c = bmux_blocks c.args.cell.now c.requires.fitted (sym c.in-Bmux.ensures)

pub returns-in_ok-bmux_term-in-Bmux : goal.returns-in_ok-bmux_term-in-Bmux
returns-in_ok-bmux_term-in-Bmux c = c.in_ok-bmux_term-in-Bmux.ensures ∙ sym (bmux_is c.args.cell.now (sym c.in-Bmux.ensures))

pub demux_term-requires : goal.demux_term-requires
demux_term-requires c = demux_blocks c.args.cell.now c.requires.fitted (sym c.in-Demux.ensures)

pub returns-in_ok-demux_term-in-Demux : goal.returns-in_ok-demux_term-in-Demux
returns-in_ok-demux_term-in-Demux c = c.in_ok-demux_term-in-Demux.ensures ∙ sym (demux_is c.args.cell.now (sym c.in-Demux.ensures))

pub lut_term-requires : goal.lut_term-requires
lut_term-requires c = lut_few c.args.cell.now c.requires.fitted (sym c.in-Lut.ensures)

pub returns-in_ok-lut_term-in-Lut : goal.returns-in_ok-lut_term-in-Lut
returns-in_ok-lut_term-in-Lut c = c.in_ok-lut_term-in-Lut.ensures ∙ sym (lut_is c.args.cell.now (sym c.in-Lut.ensures))

pub pmux_term-requires : goal.pmux_term-requires
pmux_term-requires c = pmux_chain c.args.cell.now c.requires.fitted (sym c.in-Pmux.ensures)

pub returns-in_ok-pmux_term-in-Pmux : goal.returns-in_ok-pmux_term-in-Pmux
returns-in_ok-pmux_term-in-Pmux c = c.in_ok-pmux_term-in-Pmux.ensures ∙ sym (pmux_is c.args.cell.now (sym c.in-Pmux.ensures))
