-- Rules and enumeration give the same words.
use Rattle.std.specs.Prelude.{ℕ, ◌≡◌, ◌<◌, false, List, [], map, length, get_or}
use Rattle.std.specs.List.{range_with_len}
use Rattle.std.proofs.Common.{arith, sym, ap, ◌∙◌}
use Rattle.std.proofs.lemmas.List.{ext_get_or, length-map}
use Rattle.std.proofs.lemmas.List.FromFn.{get_or-map-range_with_len, length-map-range_with_len}
use Rattle.cif_defs.specs.Words.{Word, operand, word}
use Rattle.cif_defs.specs.Kinds.{is_coarse, role_of}
use Rattle.cif_defs.specs.Cells.{Cell, meaning}
use Rattle.cif_defs.specs.Table.{outputs_of}
use Rattle.cif_defs.specs.Taint.{output_taint}
use Rattle.cif_defs.specs.Fitted.{IsFitted, row_width}
use Rattle.cif_defs.specs.declared.kinds.Role.TheVariants.{Combinational}
use Rattle.cif_kinds.proofs.OperandWidths.{map_width}
use Rattle.cif_term.specs.Formulas.{Formula, values_of}
use Rattle.cif_term.specs.CellTaints.{AreOperands, AreTaintsOf, output_width, taint_word, taint_words}
use Rattle.cif_term.proofs.OutputTerms.{values_are_taints}
use Rattle.cif_enumerate.specs.ExactWords.{exact_bits, exact_words}
use Rattle.cif_enumerate.proofs.ExactLaws.{exact_is_taint}
use Rattle.rule_check.proofs.MeaningWidths.{widths_by}

-- ---- the words of both

output_widths : (c : Cell) (us : List Word) → role_of c.kind ≡ Combinational → map length (meaning c us) ≡ map (row_width c) (outputs_of c.kind)
output_widths c us h = widths_by c.kind c us h

as_many : (c : Cell) (us : List Word) → role_of c.kind ≡ Combinational → length (meaning c us) ≡ length (outputs_of c.kind)
as_many c us h = sym (length-map (meaning c us) length) ∙ ap length (output_widths c us h) ∙ length-map (outputs_of c.kind) (row_width c)

as_wide : (c : Cell) (us : List Word) (p : ℕ) → role_of c.kind ≡ Combinational → length (operand (meaning c us) p) ≡ output_width c p
as_wide c us p h = sym (map_width (meaning c us) p) ∙ ap (λ ns. get_or ns p 0) (output_widths c us h)

same_word : (c : Cell) (vs ts : List Word) (p : ℕ) → role_of c.kind ≡ Combinational → is_coarse c.kind ≡ false → exact_bits c p (length (operand (meaning c vs) p)) vs ts ≡ taint_word c vs ts p
same_word c vs ts p h e =
    exact_is_taint c p (length (operand (meaning c vs) p)) vs ts e
    ∙ ap (λ n. word n (λ i. output_taint c p i vs ts)) (as_wide c vs p h)

pub same_words : (c : Cell) (vs ts : List Word) → role_of c.kind ≡ Combinational → is_coarse c.kind ≡ false → exact_words c vs ts ≡ taint_words c vs ts
same_words c vs ts h e =
    let f : ℕ → Word = λ p. exact_bits c p (length (operand (meaning c vs) p)) vs ts in
    let m : ℕ = length (meaning c vs) in
    let n : ℕ = length (outputs_of c.kind) in
    let many : length (meaning c vs) ≡ length (outputs_of c.kind) = as_many c vs h in
    let first : length (map f (range_with_len 0 m)) ≡ m = length-map-range_with_len f 0 m in
    let second : length (map (taint_word c vs ts) (range_with_len 0 n)) ≡ n = length-map-range_with_len (taint_word c vs ts) 0 n in
    ext_get_or [] (exact_words c vs ts) (taint_words c vs ts) (first ∙ many ∙ sym second)
    (λ p l.
    let inside : p < length (meaning c vs) = omega (arith, first) in
    get_or-map-range_with_len f 0 m p p [] inside (omega arith)
    ∙ same_word c vs ts p h e
    ∙ sym (get_or-map-range_with_len (taint_word c vs ts) 0 n p p [] (omega (arith, many)) (omega arith)))

-- what a rule gives is what the enumeration gives
pub both_same : (c : Cell) (vs ts by_rule exact : List Word) → role_of c.kind ≡ Combinational → is_coarse c.kind ≡ false → by_rule ≡ taint_words c vs ts → exact ≡ exact_words c vs ts → by_rule ≡ exact
both_same c vs ts by_rule exact h e r x = r ∙ sym (x ∙ same_words c vs ts h e)

-- and so do all formulas of its taint
pub formulas_exact : (c : Cell) (fs : List Formula) (vs ts : List Word) → role_of c.kind ≡ Combinational → is_coarse c.kind ≡ false → IsFitted c → AreTaintsOf c fs → AreOperands c vs → AreOperands c ts → values_of fs vs ts ≡ exact_words c vs ts
formulas_exact c fs vs ts h e f a hv ht = values_are_taints c fs vs ts a hv ht ∙ sym (same_words c vs ts h e)
