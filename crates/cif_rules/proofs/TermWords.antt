-- The values of the terms of a cell, one by one.
use Rattle.std.specs.Prelude.{ℕ, ◌+◌, ◌<◌, ◌≤◌, ◌≡◌, List, [], ◌∷◌, ◌++◌, length, map, get_or, take, Some, refl}
use Rattle.std.proofs.Common.{arith, ap, sym, ◌∙◌}
use Rattle.std.proofs.lemmas.List.{get_or-map, length-map, map_push, take_all, take_more}
use Rattle.cif_defs.specs.Words.{Word}
use Rattle.cif_defs.specs.Cells.{Cell}
use Rattle.cif_defs.specs.Fitted.{operand_widths}
use Rattle.cif_term.specs.declared.term.Term.{Term}
use Rattle.cif_term.specs.Formulas.{Formula, Const, value_of, values_of, width_of}
use Rattle.cif_term.specs.TermView.{formula_of}
use Rattle.cif_term.specs.CellTaints.{AreTaintsOf, output_width, taint_words}
use Rattle.cif_term.proofs.OutputTerms.{values_are_taints}

abbrev pub term_values : List Term → List Word → List Word → List Word
term_values terms vs ts = map (λ t. value_of (formula_of t) vs ts []) terms

-- the term at a place is well formed
pub formed_at : (c : Cell) (terms : List Term) (i : ℕ) (d t : Term) (vs : List Word) → AreTaintsOf c (map formula_of terms) → i < length terms → t ≡ get_or terms i d → map length vs ≡ operand_widths c → (n : ℕ) × (width_of (formula_of t) (map length vs) [] ≡ Some n)
formed_at c terms i d t vs a l e h =
    let long : length (map formula_of terms) ≡ length terms = length-map terms formula_of in
    let one = a.each i (omega arith) in
    let same : formula_of t ≡ get_or (map formula_of terms) i (Const []) = ap formula_of e ∙ sym (get_or-map formula_of terms i d (Const []) l) in
    (output_width c i, ap (λ ws. width_of (formula_of t) ws []) h ∙ ap (λ (f : Formula). width_of f (operand_widths c) []) same ∙ one.formed)

-- one more value
pub one_more : (terms : List Term) (i : ℕ) (d t : Term) (vs ts ws us : List Word) (w : Word) → i < length terms → ws ≡ term_values (take i terms) vs ts → us ≡ ws ++ w ∷ [] → t ≡ get_or terms i d → w ≡ value_of (formula_of t) vs ts []
    → us ≡ term_values (take (i + 1) terms) vs ts
one_more terms i d t vs ts ws us w l e f g h =
    f ∙ ap (λ (x : List Word). x ++ w ∷ []) e ∙ ap (λ (x : Word). term_values (take i terms) vs ts ++ x ∷ []) (h ∙ ap (λ (x : Term). value_of (formula_of x) vs ts []) g)
    ∙ sym (ap (λ (x : List Term). term_values x vs ts) (take_more terms i d l) ∙ map_push (λ x. value_of (formula_of x) vs ts []) (take i terms) (get_or terms i d))

by_formulas : (terms : List Term) (vs ts : List Word) → term_values terms vs ts ≡ values_of (map formula_of terms) vs ts
by_formulas [] vs ts = refl
by_formulas (t ∷ terms) vs ts = ap (λ (ws : List Word). value_of (formula_of t) vs ts [] ∷ ws) (by_formulas terms vs ts)

-- the values of all terms
pub words_are : (c : Cell) (terms : List Term) (n : ℕ) (vs ts ws : List Word) → AreTaintsOf c (map formula_of terms) → map length vs ≡ operand_widths c → map length ts ≡ operand_widths c → length terms ≤ n → ws ≡ term_values (take n terms) vs ts → ws ≡ taint_words c vs ts
words_are c terms n vs ts ws a hv ht l e = e ∙ ap (λ (x : List Term). term_values x vs ts) (take_all n terms l) ∙ by_formulas terms vs ts ∙ values_are_taints c (map formula_of terms) vs ts a hv ht
