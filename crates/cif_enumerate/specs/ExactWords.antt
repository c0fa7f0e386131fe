-- The exact taint of each output of a cell.
use Rattle.std.specs.Prelude.{ℕ, ◌≡◌, List, map, length}
use Rattle.std.specs.List.{range_with_len}
use Rattle.cif_defs.specs.Cells.{Cell, meaning}
use Rattle.cif_defs.specs.Completions.{can_differ}
use Rattle.cif_defs.specs.Fitted.{IsFitted, operand_widths}
use Rattle.cif_defs.specs.Kinds.{role_of}
use Rattle.cif_defs.specs.Taint.{output_bit}
use Rattle.cif_defs.specs.Words.{Word, operand, word}
use Rattle.cif_defs.specs.declared.kinds.Role.TheVariants.{Combinational}

-- the cell is combinational and fits the table of kinds, and its operands have these widths
pub record Takes (c : Cell) (widths : List ℕ) : Type 0 where
  pub role : role_of c.kind ≡ Combinational
  pub fitted : IsFitted c
  pub as_wide : widths ≡ operand_widths c

-- the n bits of output p, tainted where they can differ
abbrev pub exact_bits : Cell → ℕ → ℕ → List Word → List Word → Word
exact_bits c p n vs ts = word n (λ i. can_differ (output_bit c p i) vs ts)

-- the exact taint of each output
abbrev pub exact_words : Cell → List Word → List Word → List Word
exact_words c vs ts = map (λ p. exact_bits c p (length (operand (meaning c vs) p)) vs ts) (range_with_len 0 (length (meaning c vs)))
