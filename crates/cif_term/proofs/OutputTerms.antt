-- The terms of a cell's outputs, from formulas that are given output by output.
use Rattle.std.specs.Prelude.{ℕ, ◌<◌, ◌≤◌, ◌≡◌, List, [], ◌∷◌, map, length}
use Rattle.std.specs.List.{range_with_len}
use Rattle.std.proofs.Common.{arith, sym, ap, subst, ◌∙◌}
use Rattle.std.proofs.lemmas.List.{ext_get_or, get_or-map, length-map}
use Rattle.std.proofs.lemmas.List.FromFn.{get_or-map-range_with_len, length-map-range_with_len}
use Rattle.cif_defs.specs.Words.{Word}
use Rattle.cif_defs.specs.Cells.{Cell}
use Rattle.cif_defs.specs.Table.{outputs_of}
use Rattle.cif_defs.specs.declared.kinds.Kind.{Kind}
use Rattle.cif_defs.specs.declared.kinds.Kind.TheVariants.{Fa, Alu}
use Rattle.cif_term.specs.declared.term.Term.{Term}
use Rattle.cif_term.specs.Formulas.{Formula, Const, value_of, values_of}
use Rattle.cif_term.specs.TermView.{formula_of}
use Rattle.cif_term.specs.CellTaints.{AreOperands, AreTaintsOf, IsTaintOf, taint_word, taint_words}

pub few_outputs : (k : Kind) → length (outputs_of k) ≤ 3
unfolding outputs_of
few_outputs Fa = omega arith
few_outputs Alu = omega arith
few_outputs _ = omega arith

-- the formulas of all outputs, by a function of the output
abbrev pub formulas_of : Cell → (ℕ → Formula) → List Formula
formulas_of c f = map f (range_with_len 0 (length (outputs_of c.kind)))

pub taint_at : (c : Cell) (f : ℕ → Formula) (p : ℕ) → AreTaintsOf c (formulas_of c f) → p < length (outputs_of c.kind) → IsTaintOf c p (f p)
taint_at c f p all l =
    let long : length (formulas_of c f) ≡ length (outputs_of c.kind) = length-map-range_with_len f 0 (length (outputs_of c.kind)) in
    subst (λ (g : Formula). IsTaintOf c p g) (get_or-map-range_with_len f 0 (length (outputs_of c.kind)) p p (Const []) l (omega arith)) (all.each p (omega arith))

-- a term that stands for the formula of an output; d is the cell by another name
pub term_is_taint : (c d : Cell) (f : ℕ → Formula) (p : ℕ) (t : Term) → c ≡ d → AreTaintsOf c (formulas_of c f) → p < length (outputs_of d.kind) → formula_of t ≡ f p → IsTaintOf d p (formula_of t)
term_is_taint c d f p t e all l g =
    let inside : p < length (outputs_of c.kind) = (let q : length (outputs_of c.kind) ≡ length (outputs_of d.kind) = ap (λ (x : Cell). length (outputs_of x.kind)) e in omega arith) in
    subst (λ (x : Cell). IsTaintOf x p (formula_of t)) e (subst (λ (x : Formula). IsTaintOf c p x) (sym g) (taint_at c f p all inside))

-- the formula of a cell's only output
pub single_formula : (c : Cell) (f : ℕ → Formula) → length (outputs_of c.kind) ≡ 1 → AreTaintsOf c (f 0 ∷ []) → AreTaintsOf c (formulas_of c f)
single_formula c f one all = subst (λ (n : ℕ). AreTaintsOf c (map f (range_with_len 0 n))) (sym one) all

-- formulas of the taint of a cell give its taint words
pub values_are_taints : (c : Cell) (fs : List Formula) (vs ts : List Word) → AreTaintsOf c fs → AreOperands c vs → AreOperands c ts → values_of fs vs ts ≡ taint_words c vs ts
values_are_taints c fs vs ts a hv ht =
    let many : length fs ≡ length (outputs_of c.kind) = a.as_many in
    ext_get_or [] (values_of fs vs ts) (taint_words c vs ts) (length-map fs (λ f. value_of f vs ts []) ∙ a.as_many ∙ sym (length-map-range_with_len (taint_word c vs ts) 0 (length (outputs_of c.kind))))
    (λ p h. let inside : p < length fs = (let q : length (values_of fs vs ts) ≡ length fs = length-map fs (λ f. value_of f vs ts []) in omega arith) in
    let one = a.each p inside in
    get_or-map (λ f. value_of f vs ts []) fs p (Const []) [] inside ∙ one.means vs ts hv ht
    ∙ sym (get_or-map-range_with_len (taint_word c vs ts) 0 (length (outputs_of c.kind)) p p [] (omega arith) (omega arith)))
