-- From the value and the cost of a formula to the taint of a cell with one output.
use Rattle.std.specs.Prelude.{ℕ, ◌<◌, ◌≤◌, ◌≡◌, Bool, false, List, [], ◌∷◌, length, map, Some}
use Rattle.std.proofs.Common.{arith, sym, ap, ◌∙◌}
use Rattle.cif_defs.specs.Words.{Word, word}
use Rattle.cif_defs.specs.Kinds.{is_coarse}
use Rattle.cif_defs.specs.Table.{outputs_of}
use Rattle.cif_defs.specs.Cells.{Cell}
use Rattle.cif_defs.specs.Fitted.{operand_widths}
use Rattle.cif_defs.specs.Taint.{output_bit}
use Rattle.cif_defs.specs.Weights.{weight}
use Rattle.cif_term.specs.Formulas.{Formula, IsFormed, cost_of, value_of, width_of}
use Rattle.cif_term.specs.CellTaints.{AreTaintsOf, IsTaintOf, output_width}
use Rattle.cif_term.proofs.ExactTaintWords.{one_output}
use Rattle.rule_select.proofs.SelectOperands.{taint_of_completions}
use Rattle.rule_select.proofs.TreeLaws.{differs}

-- f has n bits and costs at most k, over operands of widths ws; its value says which of these bits can differ, and the cell gives them
pub record IsFormulaOf (c : Cell) (f : Formula) (ws : List ℕ) (n k : ℕ) (bits : ℕ → List Word → Bool) : Type 0 where
  pub widths : operand_widths c ≡ ws
  pub output : output_width c 0 ≡ n
  pub one : length (outputs_of c.kind) ≡ 1
  pub fine : is_coarse c.kind ≡ false
  pub formed : IsFormed f ws [] n k
  pub value : (vs ts : List Word) → map length vs ≡ ws → map length ts ≡ ws → value_of f vs ts [] ≡ word n (differs bits vs ts)
  pub gives : (us : List Word) → map length us ≡ ws → (i : ℕ) → i < n → output_bit c 0 i us ≡ bits i us

taint_from : (c : Cell) (f : Formula) (ws : List ℕ) (n k : ℕ) (bits : ℕ → List Word → Bool) → IsFormulaOf c f ws n k bits → IsTaintOf c 0 f
taint_from c f ws n k bits g = record {
  formed = ap (λ (x : List ℕ). width_of f x []) g.widths ∙ g.formed.width ∙ ap (λ m. Some m) (sym g.output);
  means = λ vs ts e q. g.value vs ts (e ∙ g.widths) (q ∙ g.widths) ∙ taint_of_completions c 0 n bits vs ts g.fine g.output (λ us d i h. g.gives us (d ∙ e ∙ g.widths) i h);
}

pub taints_from : (c : Cell) (f : Formula) (ws : List ℕ) (n k : ℕ) (bits : ℕ → List Word → Bool) → IsFormulaOf c f ws n k bits → k ≤ weight c → AreTaintsOf c (f ∷ [])
taints_from c f ws n k bits g h =
    let most : cost_of f ws [] ≤ k = g.formed.cost in
    let same : cost_of f (operand_widths c) [] ≡ cost_of f ws [] = ap (λ (x : List ℕ). cost_of f x []) g.widths in
    one_output c f g.one (taint_from c f ws n k bits g) (omega arith)
