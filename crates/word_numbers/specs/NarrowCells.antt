-- Cells whose ports hold words of at most 128 bits.
use Rattle.std.specs.Prelude.{ℕ, ◌≤◌, List, [], ◌∷◌, map}
use Rattle.cif_defs.specs.Cells.{Cell}
use Rattle.cif_defs.specs.Fitted.{operand_widths, row_width}
use Rattle.cif_defs.specs.Table.{outputs_of}

-- how many bits each output of a cell has
abbrev pub output_widths : Cell → List ℕ
output_widths c = map (row_width c) (outputs_of c.kind)

abbrev pub AreWithin128 : List ℕ → Type 0
AreWithin128 [] = Unit {0}
AreWithin128 (n ∷ ns) = (n ≤ 128) × AreWithin128 ns

pub record IsNarrow (c : Cell) : Type 0 where
  pub operands : AreWithin128 (operand_widths c)
  pub outputs : AreWithin128 (output_widths c)
