-- Operands of which no bit is tainted, and the taint of the outputs there.
use Rattle.std.specs.Prelude.{ℕ, ◌≡◌, false, List, map, length}
use Rattle.std.specs.List.{range_with_len}
use Rattle.cif_defs.specs.Words.{Word, bit, operand, zeros}
use Rattle.cif_defs.specs.Cells.{Cell}
use Rattle.cif_defs.specs.Table.{outputs_of}
use Rattle.cif_term.specs.CellTaints.{output_width}

-- every bit of every taint word is false
pub record IsUntainted (ts : List Word) : Type 0 where
  pub clear : (p i : ℕ) → bit (operand ts p) i ≡ false

-- a word of zeros for each output
abbrev pub untainted_words : Cell → List Word
untainted_words c = map (λ p. zeros (output_width c p)) (range_with_len 0 (length (outputs_of c.kind)))
