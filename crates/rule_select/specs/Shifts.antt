-- The taint of shifts: their operands are A and B.
use Rattle.std.specs.Prelude.{ℕ, ◌≤◌, max, Bool, if◌then◌else◌}
use Rattle.cif_defs.specs.Cells.{Cell, number_of, y_width, a_signed}
use Rattle.cif_defs.specs.declared.kinds.Param.TheVariants.{AWidth, BWidth}
use Rattle.cif_term.specs.Formulas.{Formula, Value, Taint, Bound, Pick}
use Rattle.cif_term.specs.Extended.{extended}
use Rattle.rule_select.specs.declared.moves.Moves.{Moves}
use Rattle.rule_select.specs.declared.moves.Moves.TheVariants.{Left, Right, Signed}
use Rattle.rule_select.specs.Windows.{places_from}
use Rattle.rule_select.specs.Trees.{tree}
use Rattle.rule_select.specs.Moves.{order_by, parts_by, wide_by}

-- n bits of A, which has a bits and is extended, moved by the b bits of B
abbrev pub shift_formula : Moves → ℕ → ℕ → Bool → ℕ → Formula
shift_formula moves n a signed b =
    tree 1 (order_by moves b) (parts_by moves) (extended (wide_by moves) signed a (Value 0)) (extended (wide_by moves) signed a (Taint 0)) b (Pick (Bound 0) (places_from 0 n))

abbrev pub cell_shift : Moves → Cell → Formula
cell_shift moves c = shift_formula moves (y_width c) (number_of c AWidth) (a_signed c) (number_of c BWidth)

-- a right shift works on the larger of the widths of A and Y
abbrev pub right_width : Cell → ℕ
right_width c = max (number_of c AWidth) (y_width c)

-- $shl and $sshl
abbrev pub left_moves : Cell → Moves
left_moves c = Left (y_width c)

-- $shr
abbrev pub right_moves : Cell → Moves
right_moves c = Right (right_width c)

-- $sshr
abbrev pub signed_moves : Cell → Moves
signed_moves c = if a_signed c then Signed (right_width c) else Right (right_width c)

-- ports of no more bits than a part of a term may have
pub record IsNarrow (c : Cell) : Type 0 where
  pub a : number_of c AWidth ≤ 65536
  pub b : number_of c BWidth ≤ 65536
  pub y : y_width c ≤ 65536
