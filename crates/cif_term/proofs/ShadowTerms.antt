-- The terms of a shadow's outputs, one by one.
use Rattle.std.specs.Prelude.{ℕ, ◌+◌, ◌≡◌, List, [], ◌∷◌, ◌++◌, map}
use Rattle.std.specs.List.{range_with_len}
use Rattle.std.proofs.Common.{arith, ap, sym, ◌∙◌}
use Rattle.std.proofs.lemmas.List.{map_push}
use Rattle.std.proofs.lemmas.List.FromFn.{map-range_with_len_more}
use Rattle.cif_defs.specs.Words.{Word}
use Rattle.cif_term.specs.Formulas.{Formula, value_of, values_of}
use Rattle.cif_term.specs.TermView.{formula_of}
use Rattle.cif_term.specs.declared.term.Term.{Term}

-- one more output
pub one_more : {A B : Type 0} (g : A → B) (f : ℕ → B) (i : ℕ) (xs ys : List A) (x : A) → map g xs ≡ map f (range_with_len 0 i) → ys ≡ xs ++ x ∷ [] → g x ≡ f i → map g ys ≡ map f (range_with_len 0 (i + 1))
one_more {A} {B} g f i xs ys x e pushed h =
    ap (map g) pushed ∙ map_push g xs x ∙ ap (λ (l : List B). l ++ g x ∷ []) e ∙ ap (λ (y : B). map f (range_with_len 0 i) ++ y ∷ []) h
    ∙ sym (map-range_with_len_more f 0 i i (omega arith))

pub formulas_more : (f : ℕ → Formula) (i : ℕ) (ts us : List Term) (t : Term) → map formula_of ts ≡ map f (range_with_len 0 i) → us ≡ ts ++ t ∷ [] → formula_of t ≡ f i → map formula_of us ≡ map f (range_with_len 0 (i + 1))
formulas_more f i ts us t e pushed h = one_more formula_of f i ts us t e pushed h

pub values_more : (f : ℕ → Word) (i : ℕ) (terms longer : List Term) (t : Term) (vs ts : List Word) → values_of (map formula_of terms) vs ts ≡ map f (range_with_len 0 i) → longer ≡ terms ++ t ∷ [] → value_of (formula_of t) vs ts [] ≡ f i
    → values_of (map formula_of longer) vs ts ≡ map f (range_with_len 0 (i + 1))
values_more f i terms longer t vs ts e pushed h =
    one_more (λ (g : Formula). value_of g vs ts []) f i (map formula_of terms) (map formula_of longer) (formula_of t) e (ap (map formula_of) pushed ∙ map_push formula_of terms t) h
