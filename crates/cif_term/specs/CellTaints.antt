-- What the terms of a cell have to be.
use Rattle.std.specs.Prelude.{ℕ, ◌≡◌, ◌<◌, ◌≤◌, List, [], map, length, get_or, Some}
use Rattle.std.specs.List.{range_with_len, sum_by}
use Rattle.cif_defs.specs.Words.{Word, word}
use Rattle.cif_defs.specs.Cells.{Cell}
use Rattle.cif_defs.specs.Table.{outputs_of}
use Rattle.cif_defs.specs.Taint.{output_taint}
use Rattle.cif_defs.specs.Fitted.{row_width, operand_widths}
use Rattle.cif_defs.specs.Weights.{weight}
use Rattle.cif_term.specs.Formulas.{Formula, Const, value_of, width_of, cost_of}

-- how many bits output p of a cell has
abbrev pub output_width : Cell → ℕ → ℕ
output_width c p = get_or (map (row_width c) (outputs_of c.kind)) p 0

-- the taint of output p of a combinational cell, exact or coarse, for operand words vs with taints ts
abbrev pub taint_word : Cell → List Word → List Word → ℕ → Word
taint_word c vs ts p = word (output_width c p) (λ i. output_taint c p i vs ts)

-- the taint words of all outputs
abbrev pub taint_words : Cell → List Word → List Word → List Word
taint_words c vs ts = map (taint_word c vs ts) (range_with_len 0 (length (outputs_of c.kind)))

-- words that the operands of a cell can have
abbrev pub AreOperands : Cell → List Word → Type 0
AreOperands c ws = map length ws ≡ operand_widths c

-- f computes the taint of output p, for all values and taints
pub record IsTaintOf (c : Cell) (p : ℕ) (f : Formula) : Type 0 where
  pub formed : width_of f (operand_widths c) [] ≡ Some (output_width c p)
  pub means : (vs ts : List Word) → AreOperands c vs → AreOperands c ts → value_of f vs ts [] ≡ taint_word c vs ts p

-- one formula for each output, which cost together no more than the cell's weight
pub record AreTaintsOf (c : Cell) (fs : List Formula) : Type 0 where
  pub as_many : length fs ≡ length (outputs_of c.kind)
  pub each : (p : ℕ) → p < length fs → IsTaintOf c p (get_or fs p (Const []))
  pub cost : sum_by (λ f. cost_of f (operand_widths c) []) fs ≤ weight c
