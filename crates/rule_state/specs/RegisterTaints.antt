-- What the terms of a register have to be.
use Rattle.std.specs.Prelude.{◌≡◌, ◌≤◌, List, [], ◌∷◌, ◌++◌, length, Some}
use Rattle.cif_defs.specs.Words.{Word}
use Rattle.cif_defs.specs.Cells.{Cell, width}
use Rattle.cif_defs.specs.Taint.{next_register_taint, shown_taint}
use Rattle.cif_defs.specs.Fitted.{operand_widths}
use Rattle.cif_term.specs.Formulas.{Formula, value_of, width_of, cost_of}
use Rattle.cif_term.specs.CellTaints.{AreOperands}

-- f computes the taint of what a register stores next, for all values and taints; the stored word stands after the last
-- operand
pub record IsNextTaint (c : Cell) (f : Formula) : Type 0 where
  pub formed : width_of f (operand_widths c ++ width c ∷ []) [] ≡ Some (width c)
  pub means : (vs ts : List Word) (stored stored_taint : Word) → AreOperands c vs → AreOperands c ts → length stored ≡ width c → length stored_taint ≡ width c
      → value_of f (vs ++ stored ∷ []) (ts ++ stored_taint ∷ []) [] ≡ next_register_taint c vs ts stored stored_taint
  pub cost : cost_of f (operand_widths c ++ width c ∷ []) [] ≤ 31

-- f computes the taint of what a register with asynchronous reset shows, for all values and taints; operand 0 is the
-- reset, and operand 1 the stored word
pub record IsShownTaint (c : Cell) (f : Formula) : Type 0 where
  pub formed : width_of f (1 ∷ width c ∷ []) [] ≡ Some (width c)
  pub means : (reset reset_taint stored stored_taint : Word) → length reset ≡ 1 → length reset_taint ≡ 1 → length stored ≡ width c → length stored_taint ≡ width c
      → value_of f (reset ∷ stored ∷ []) (reset_taint ∷ stored_taint ∷ []) [] ≡ shown_taint c reset reset_taint stored stored_taint
  pub cost : cost_of f (1 ∷ width c ∷ []) [] ≤ 15
