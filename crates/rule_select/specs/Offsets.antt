-- The taint of $shift and $shiftx: their operands are A and B, and B may be signed.
use Rattle.std.specs.Prelude.{ℕ, ◌-◌, max, Bool, false, if◌then◌else◌}
use Rattle.cif_defs.specs.Cells.{Cell, number_of, y_width, a_signed, b_signed}
use Rattle.cif_defs.specs.declared.kinds.Param.TheVariants.{AWidth, BWidth}
use Rattle.cif_term.specs.Formulas.{Formula, Value, Taint, Bound, Pick, Join, Let}
use Rattle.cif_term.specs.Extended.{extended}
use Rattle.rule_select.specs.declared.moves.Moves.TheVariants.{Right, Rising}
use Rattle.rule_select.specs.Choices.{taint_choice}
use Rattle.rule_select.specs.Windows.{places_from}
use Rattle.rule_select.specs.Trees.{select_bit, select_taint, tree}
use Rattle.rule_select.specs.Moves.{moved_left, order_by, parts_by}
use Rattle.rule_select.specs.Shifts.{shift_formula}

-- n bits of the word Bound 1, and above them n bits of its taint Bound 0
abbrev pub pair_of : ℕ → Formula
pair_of n = Join (Pick (Bound 1) (places_from 0 n)) (Pick (Bound 0) (places_from 0 n))

abbrev pub pair_value : ℕ → Formula → Formula
pair_value n f = Pick f (places_from 0 n)

abbrev pub pair_taint : ℕ → Formula → Formula
pair_taint n f = Pick f (places_from n n)

-- n bits of A moved right by the lowest m bits of B, and their taint
abbrev pub near_pair : ℕ → ℕ → Bool → ℕ → Formula
near_pair n a signed m = tree 1 (order_by (Right (max a n)) m) (parts_by (Right (max a n))) (extended (max a n) signed a (Value 0)) (extended (max a n) signed a (Taint 0)) m (pair_of n)

-- the same 2 ^ m places further left: one place, and 2 ^ k more for each bit k of them that is 0
abbrev pub far_pair : ℕ → ℕ → Bool → ℕ → Formula
far_pair n a signed m = tree 1 (order_by (Rising n) m) (parts_by (Rising n)) (moved_left n 0 (extended n signed a (Value 0))) (moved_left n 0 (extended n signed a (Taint 0))) m (pair_of n)

-- where B has a sign, it is bit m
abbrev pub two_way_formula : ℕ → ℕ → Bool → ℕ → Formula
two_way_formula n a signed m =
    Let (near_pair n a signed m) (Let (far_pair n a signed m)
    (taint_choice (select_bit 1 m) (select_taint 1 m) (pair_value n (Bound 1)) (pair_taint n (Bound 1)) (pair_value n (Bound 0)) (pair_taint n (Bound 0))))

abbrev pub offset_formula : ℕ → ℕ → Bool → Bool → ℕ → Formula
offset_formula n a signed two_way b = if two_way then two_way_formula n a signed (b - 1) else shift_formula (Right (max a n)) n a signed b

abbrev pub cell_offset : Bool → Cell → Formula
cell_offset signed c = offset_formula (y_width c) (number_of c AWidth) signed (b_signed c) (number_of c BWidth)

-- $shift extends A by its sign, and $shiftx with zeros
abbrev pub shift_offset : Cell → Formula
shift_offset c = cell_offset (a_signed c) c

abbrev pub shiftx_offset : Cell → Formula
shiftx_offset c = cell_offset false c
