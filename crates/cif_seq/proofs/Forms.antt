-- The forms of a netlist's cells, one after another.
use Rattle.std.specs.Prelude.{ℕ, ◌+◌, ◌<◌, ◌≡◌, ◌⊎◌, List, [], ◌∷◌, ◌++◌, get_or, length, Option, None, Some, MatchOption, ⊤}
use Rattle.std.proofs.Common.{arith, ap, sym, subst, ◌∙◌, inl, inr}
use Rattle.std.proofs.lemmas.List.{get_or_append_left, get_or_default, get_or_past, length-append}
use Rattle.std.proofs.Math.Seq.{get_or-append_seam}
use Rattle.cif_defs.specs.Cells.{Cell}
use Rattle.cif_defs.specs.Netlist.{Netlist, cell_at, no_cell}
use Rattle.cif_words.specs.Forms.{HasForm, StandsFor}
use Rattle.cif_words.specs.declared.form.WordForm.{WordForm}
use Rattle.cif_seq.specs.CaseView.{AreForms}

abbrev FormOf : Netlist → ℕ → Option WordForm → Type 0
FormOf n c f = MatchOption f ⊤ (λ form. StandsFor form (cell_at n c))

pub no_forms : (n : Netlist) (forms : List (Option WordForm)) → forms ≡ [] → AreForms n forms
unfolding AreForms
no_forms n forms e = λ c. subst (λ (f : Option WordForm). FormOf n c f) (sym (ap (λ (fs : List (Option WordForm)). get_or fs c None) e)) tt

below_or_not : (c i : ℕ) → (c < i) ⊎ ((c ≡ i) ⊎ (i < c))
below_or_not c i = search arith

-- of a form that is read, what counts in a cycle
pub that_stands : (f : Option WordForm) (x : Cell) → MatchOption f (HasForm x → ⊥) (λ form. HasForm x × StandsFor form x) → MatchOption f ⊤ (λ form. StandsFor form x)
that_stands None x h = tt
that_stands (Some form) x h = h.1

-- one more form, of the cell at its place
pub form_more : (n : Netlist) (cells : List Cell) (forms new : List (Option WordForm)) (i : ℕ) (x : Cell) (f : Option WordForm) → AreForms n forms → length forms ≡ i → i < length cells → cells ≡ n.cells → x ≡ get_or cells i x → MatchOption f ⊤ (λ form. StandsFor form x) → new ≡ forms ++ f ∷ [] → AreForms n new
unfolding AreForms
form_more n cells forms new i x f h size l same at stands e = λ c. elim (below_or_not c i) [
  | inl k ↦ subst (λ (o : Option WordForm). FormOf n c o) (sym (ap (λ (fs : List (Option WordForm)). get_or fs c None) e ∙ get_or_append_left forms (f ∷ []) None c (omega arith))) (h c)
  | inr (inl k) ↦ (let found : x ≡ cell_at n i = at ∙ get_or_default cells i x no_cell l ∙ ap (λ (cs : List Cell). get_or cs i no_cell) same in
      let here : get_or new c None ≡ f = ap (λ (fs : List (Option WordForm)). get_or fs c None) e ∙ ap (λ j. get_or (forms ++ f ∷ []) j None) (k ∙ sym size) ∙ get_or-append_seam forms f [] None in
      subst (λ (o : Option WordForm). FormOf n c o) (sym here) (subst (λ j. FormOf n j f) (sym k) (subst (λ (y : Cell). MatchOption f ⊤ (λ form. StandsFor form y)) found stands)))
  | inr (inr k) ↦ (let long : length (forms ++ f ∷ []) ≡ length forms + 1 = length-append forms (f ∷ []) in
      subst (λ (o : Option WordForm). FormOf n c o) (sym (ap (λ (fs : List (Option WordForm)). get_or fs c None) e ∙ get_or_past (forms ++ f ∷ []) c None (omega arith))) tt)
]

-- a form that was read at its number
pub form_read : (n : Netlist) (forms : List (Option WordForm)) (c : ℕ) (f : Option WordForm) → AreForms n forms → c < length forms → f ≡ get_or forms c f → MatchOption f ⊤ (λ form. StandsFor form (cell_at n c))
unfolding AreForms
form_read n forms c f h l e = subst (λ (o : Option WordForm). FormOf n c o) (sym (e ∙ get_or_default forms c f None l)) (h c)
