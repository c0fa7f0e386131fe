-- What the calls answer: all ones, and the terms of a cell.
use Rattle.std.specs.Prelude.{ℕ, ◌<◌, ◌≡◌, true, false, List, map, length, replicate}
use Rattle.std.specs.List.{range_with_len}
use Rattle.std.proofs.Common.{sym, subst}
use Rattle.std.proofs.lemmas.List.{get_or-replicate, length-replicate}
use Rattle.std.proofs.lemmas.List.FromFn.{fill_by_all}
use Rattle.cif_defs.specs.Cells.{Cell}
use Rattle.cif_defs.specs.Fitted.{IsFitted}
use Rattle.cif_defs.specs.Table.{outputs_of}
use Rattle.cif_term.specs.declared.term.Term.{Term}
use Rattle.cif_term.specs.Formulas.{Formula}
use Rattle.cif_term.specs.TermView.{formula_of}
use Rattle.cif_term.specs.CellTaints.{AreTaintsOf, IsTaintOf}
use Rattle.cif_term.proofs.OutputTerms.{formulas_of, single_formula, term_is_taint}
use Rattle.rule_coarse.specs.CoarseFormulas.{coarse_formula, covers_coarse, ones}
use Rattle.rule_coarse.proofs.CoarseKinds.{coarse_taints, one_coarse_output}

pub ones_from_replicate : (n : ℕ) → replicate n true ≡ ones n
ones_from_replicate n = fill_by_all (λ i. true) (replicate n true) n false (length-replicate n true) (λ i h. get_or-replicate n i true false h)

by_output : (c : Cell) → covers_coarse c.kind ≡ true → IsFitted c → AreTaintsOf c (formulas_of c (λ p. coarse_formula c))
by_output c h f = single_formula c (λ p. coarse_formula c) (one_coarse_output c h) (coarse_taints c h f)

pub coarse_term_is : (c d : Cell) (p : ℕ) (t : Term) → c ≡ d → covers_coarse c.kind ≡ true → IsFitted c → p < length (outputs_of d.kind) → formula_of t ≡ coarse_formula c → IsTaintOf d p (formula_of t)
coarse_term_is c d p t e h f l g = term_is_taint c d (λ q. coarse_formula c) p t e (by_output c h f) l g

-- d is the cell by another name
pub coarse_terms_are : (c d : Cell) (fs : List Formula) → d ≡ c → covers_coarse c.kind ≡ true → IsFitted c → fs ≡ map (λ p. coarse_formula d) (range_with_len 0 (length (outputs_of d.kind))) → AreTaintsOf c fs
coarse_terms_are c d fs q h f e =
    let own : fs ≡ map (λ p. coarse_formula c) (range_with_len 0 (length (outputs_of c.kind))) = subst (λ (x : Cell). fs ≡ map (λ p. coarse_formula x) (range_with_len 0 (length (outputs_of x.kind)))) q e in
    subst (λ (gs : List Formula). AreTaintsOf c gs) (sym own) (by_output c h f)
