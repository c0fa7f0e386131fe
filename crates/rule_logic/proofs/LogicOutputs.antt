-- The formulas of a cell's outputs, and the terms that stand for them.
use Rattle.std.specs.Prelude.{ℕ, ◌<◌, ◌≡◌, true, List, map, length}
use Rattle.std.specs.List.{range_with_len}
use Rattle.std.proofs.Common.{sym, subst}
use Rattle.cif_defs.specs.Cells.{Cell}
use Rattle.cif_defs.specs.Fitted.{IsFitted}
use Rattle.cif_defs.specs.Table.{outputs_of}
use Rattle.cif_term.specs.declared.term.Term.{Term}
use Rattle.cif_term.specs.Formulas.{Formula}
use Rattle.cif_term.specs.TermView.{formula_of}
use Rattle.cif_term.specs.CellTaints.{AreTaintsOf, IsTaintOf}
use Rattle.cif_term.proofs.OutputTerms.{term_is_taint}
use Rattle.rule_logic.specs.LogicFormulas.{covers_logic, logic_formula}
use Rattle.rule_logic.proofs.LogicRest.{logic_taints}

pub logic_term_is : (c d : Cell) (p : ℕ) (t : Term) → c ≡ d → covers_logic c.kind ≡ true → IsFitted c → p < length (outputs_of d.kind) → formula_of t ≡ logic_formula c p → IsTaintOf d p (formula_of t)
logic_term_is c d p t e h f l g = term_is_taint c d (logic_formula c) p t e (logic_taints c h f) l g

-- d is the cell by another name
pub logic_terms_are : (c d : Cell) (fs : List Formula) → d ≡ c → covers_logic c.kind ≡ true → IsFitted c → fs ≡ map (logic_formula d) (range_with_len 0 (length (outputs_of d.kind))) → AreTaintsOf c fs
logic_terms_are c d fs q h f e =
    let own : fs ≡ map (logic_formula c) (range_with_len 0 (length (outputs_of c.kind))) = subst (λ (x : Cell). fs ≡ map (logic_formula x) (range_with_len 0 (length (outputs_of x.kind)))) q e in
    subst (λ (gs : List Formula). AreTaintsOf c gs) (sym own) (logic_taints c h f)
