-- The taints of forms.
use Rattle.std.specs.Prelude.{ℕ, ◌≤◌, ◌≡◌, List, [], ◌∷◌, length, map, refl}
use Rattle.std.proofs.Common.{arith, sym, ap, subst, ◌∙◌}
use Rattle.cif_defs.specs.Words.{Word, digit, word_of}
use Rattle.cif_defs.specs.Cells.{Cell, meaning}
use Rattle.cif_defs.specs.Fitted.{operand_widths}
use Rattle.cif_defs.proofs.WordLaws.{length-word}
use Rattle.cif_term.specs.CellTaints.{AreOperands, taint_words}
use Rattle.word_numbers.specs.NarrowCells.{output_widths}
use Rattle.word_numbers.specs.HeldWords.{held, words_held}
use Rattle.word_numbers.specs.declared.words.Words.{Words}
use Rattle.word_choices.specs.declared.form.SelectForm.{SelectForm}
use Rattle.word_choices.specs.declared.form.SelectForm.TheVariants.{Mux, Pmux, Bmux, Demux, Lut, Left, Right, Signed, Offset, Indexed}
use Rattle.word_choices.specs.SelectForms.{StandsFor, form_operands, form_output, form_word}
use Rattle.word_choices.specs.Shadows.{exact_word}

-- x holds the taint of what a form gives
abbrev pub IsTaint : SelectForm → Words → Words → ℕ → Type 0
IsTaint f vs ts x = word_of (form_output f) x ≡ exact_word (form_output f) (form_word f) (words_held (form_operands f) vs) (words_held (form_operands f) ts)

pub taint_as : (f g : SelectForm) (vs ts : Words) (x : ℕ) → f ≡ g → IsTaint g vs ts x → IsTaint f vs ts x
taint_as f g vs ts x e h = subst (λ k. IsTaint k vs ts x) (sym e) h

-- ---- cells of a form

-- words that are held have their widths
held_lengths : (ns xs : List ℕ) → length ns ≤ length xs → map length (held ns xs) ≡ ns
held_lengths [] xs h = refl
held_lengths (n ∷ ns) [] h = absurd (omega arith)
held_lengths (n ∷ ns) (x ∷ xs) h = ap (λ k. k ∷ map length (held ns xs)) (length-word n (digit x)) ∙ ap (λ (ks : List ℕ). n ∷ ks) (held_lengths ns xs (omega arith))

few_operands : (f : SelectForm) → length (form_operands f) ≤ 4
few_operands (Mux n) = omega arith
few_operands (Pmux c) = omega arith
few_operands (Bmux b) = omega arith
few_operands (Demux b) = omega arith
few_operands (Lut t) = omega arith
few_operands (Left s) = omega arith
few_operands (Right s) = omega arith
few_operands (Signed s) = omega arith
few_operands (Offset s) = omega arith
few_operands (Indexed s) = omega arith

are_operands : (f : SelectForm) (c : Cell) (vs : Words) → StandsFor f c → AreOperands c (words_held (form_operands f) vs)
are_operands f c vs s = held_lengths (form_operands f) (vs.a ∷ vs.b ∷ vs.c ∷ vs.d ∷ []) (few_operands f) ∙ sym s.operands

held_one : (n x : ℕ) (w : Words) → w ≡ record { a = x; b = 0; c = 0; d = 0 } → words_held (n ∷ []) w ≡ word_of n x ∷ []
held_one n x w e = ap (λ (v : Words). words_held (n ∷ []) v) e

pub cell_words : (f : SelectForm) (c : Cell) (vs w : Words) (x : ℕ) → StandsFor f c → w ≡ record { a = x; b = 0; c = 0; d = 0 } → word_of (form_output f) x ≡ form_word f (words_held (form_operands f) vs)
    → words_held (output_widths c) w ≡ meaning c (words_held (operand_widths c) vs)
cell_words f c vs w x s e h =
    ap (λ (ns : List ℕ). words_held ns w) s.outputs ∙ held_one (form_output f) x w e ∙ ap (λ (u : Word). u ∷ []) h
    ∙ sym (ap (λ (ns : List ℕ). meaning c (words_held ns vs)) s.operands ∙ s.words (words_held (form_operands f) vs) (are_operands f c vs s))

pub cell_taints : (f : SelectForm) (c : Cell) (vs ts w : Words) (x : ℕ) → StandsFor f c → w ≡ record { a = x; b = 0; c = 0; d = 0 } → IsTaint f vs ts x
    → words_held (output_widths c) w ≡ taint_words c (words_held (operand_widths c) vs) (words_held (operand_widths c) ts)
cell_taints f c vs ts w x s e h =
    ap (λ (ns : List ℕ). words_held ns w) s.outputs ∙ held_one (form_output f) x w e ∙ ap (λ (u : Word). u ∷ []) h
    ∙ sym (ap (λ (ns : List ℕ). taint_words c (words_held ns vs) (words_held ns ts)) s.operands ∙ s.taints (words_held (form_operands f) vs) (words_held (form_operands f) ts) (are_operands f c vs s) (are_operands f c ts s))
