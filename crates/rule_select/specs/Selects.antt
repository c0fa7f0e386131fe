-- The kinds of cells that select, and the formula of the taint of each.
use Rattle.std.specs.Prelude.{Bool, true, false, []}
use Rattle.cif_defs.specs.declared.kinds.Kind.{Kind}
use Rattle.cif_defs.specs.declared.kinds.Kind.TheVariants.{Mux, Shl, Sshl, Shr, Sshr, Shift, Shiftx, Bmux, Demux, Lut, Pmux}
use Rattle.cif_defs.specs.Cells.{Cell}
use Rattle.cif_term.specs.Formulas.{Formula, Const}
use Rattle.rule_select.specs.Mux.{mux_formula}
use Rattle.rule_select.specs.Offsets.{shift_offset, shiftx_offset}
use Rattle.rule_select.specs.Selections.{cell_bmux, cell_demux, cell_lut}
use Rattle.rule_select.specs.Chains.{cell_pmux}
use Rattle.rule_select.specs.Shifts.{cell_shift, left_moves, right_moves, signed_moves}

-- the kinds whose taint has a formula here
abbrev pub is_select : Kind → Bool
is_select Mux = true
is_select Shl = true
is_select Sshl = true
is_select Shr = true
is_select Sshr = true
is_select Shift = true
is_select Shiftx = true
is_select Bmux = true
is_select Demux = true
is_select Lut = true
is_select Pmux = true
is_select _ = false

unfoldable pub formula_by : Kind → Cell → Formula
formula_by Mux c = mux_formula
formula_by Shl c = cell_shift (left_moves c) c
formula_by Sshl c = cell_shift (left_moves c) c
formula_by Shr c = cell_shift (right_moves c) c
formula_by Sshr c = cell_shift (signed_moves c) c
formula_by Shift c = shift_offset c
formula_by Shiftx c = shiftx_offset c
formula_by Bmux c = cell_bmux c
formula_by Demux c = cell_demux c
formula_by Lut c = cell_lut c
formula_by Pmux c = cell_pmux c
formula_by _ c = Const []

-- the formula of the taint of a cell's one output
abbrev pub select_formula : Cell → Formula
select_formula c = formula_by c.kind c
