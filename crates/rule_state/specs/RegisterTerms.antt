-- What a register stores next and shows, by its kind, with its taint.
use Rattle.std.specs.Prelude.{ℕ}
use Rattle.cif_defs.specs.Cells.{Cell, number_of, digits_of, width}
use Rattle.cif_defs.specs.declared.kinds.Kind.{Kind}
use Rattle.cif_defs.specs.declared.kinds.Kind.TheVariants.{Dffe, Sdff, Sdffe, Sdffce, Adff, Adffe}
use Rattle.cif_defs.specs.declared.kinds.Param.{Param}
use Rattle.cif_defs.specs.declared.kinds.Param.TheVariants.{EnPolarity, SrstPolarity, SrstValue, ArstPolarity, ArstValue}
use Rattle.rule_state.specs.Marks.{Marked, operand_mark, fixed_mark, control_mark, chosen_mark}

-- d where the enable at operand 1 is active, else the stored word
abbrev pub enabled_mark : Cell → Marked → ℕ → Marked
enabled_mark c d stored = chosen_mark (control_mark (number_of c EnPolarity) 1) (operand_mark stored) d

-- the reset value where the reset at an operand is active, else x
abbrev pub reset_mark : Cell → Param → Param → ℕ → Marked → Marked
reset_mark c polarity value p x = chosen_mark (control_mark (number_of c polarity) p) x (fixed_mark (width c) (digits_of c value))

-- the next stored word: the operands are D and the controls, and after them the stored word
unfoldable pub next_mark_by : Kind → Cell → Marked
next_mark_by Dffe c = enabled_mark c (operand_mark 0) 2
next_mark_by Sdff c = reset_mark c SrstPolarity SrstValue 1 (operand_mark 0)
next_mark_by Sdffe c = reset_mark c SrstPolarity SrstValue 2 (enabled_mark c (operand_mark 0) 3)
next_mark_by Sdffce c = enabled_mark c (reset_mark c SrstPolarity SrstValue 2 (operand_mark 0)) 3
next_mark_by Adff c = reset_mark c ArstPolarity ArstValue 1 (operand_mark 0)
next_mark_by Adffe c = reset_mark c ArstPolarity ArstValue 2 (enabled_mark c (operand_mark 0) 3)
next_mark_by _ c = operand_mark 0

-- the word that a register with asynchronous reset shows: operand 0 is its reset, and operand 1 the stored word
abbrev pub shown_mark : Cell → Marked
shown_mark c = reset_mark c ArstPolarity ArstValue 0 (operand_mark 1)
