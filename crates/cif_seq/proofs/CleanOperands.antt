-- Operands of which no bit is tainted, as the code finds them.
use Rattle.std.specs.Prelude.{ℕ, ◌≡◌, Bool, false, ◌||◌, List, [], ◌∷◌, refl}
use Rattle.std.specs.List.{list_any}
use Rattle.std.proofs.Common.{ap, sym, ◌∙◌}
use Rattle.cif_defs.specs.Words.{Word, bit, has_one, operand}
use Rattle.cif_defs.specs.Cells.{Cell}
use Rattle.cif_defs.specs.TaintRun.{operand_taints, src_taint, taint_word, taints_under}
use Rattle.cif_defs.specs.declared.nets.Src.{Src}
use Rattle.cif_term.specs.CellTaints.{taint_words}
use Rattle.cif_shapes.proofs.NoTaint.{bits_are_clear, from_test}

has_taint : (t : ℕ → Bool) (ss : List Src) → has_one (taint_word t ss) ≡ list_any (src_taint t) ss
has_taint t [] = refl
has_taint t (s ∷ ss) = ap (λ x. src_taint t s || x) (has_taint t ss)

have_taint : (t : ℕ → Bool) (ops : List (List Src)) → list_any has_one (taints_under t ops) ≡ list_any (list_any (src_taint t)) ops
have_taint t [] = refl
have_taint t (ss ∷ ops) = rw (has_taint t ss, have_taint t ops) refl

-- where a cell reads no tainted bit, no words stand for the taints of its outputs
pub no_words : (t : ℕ → Bool) (x y : Cell) (vs none : List Word) (found : Bool) → found ≡ false → found ≡ list_any (list_any (src_taint t)) x.operands → x ≡ y → none ≡ [] → (p i : ℕ) → bit (operand none p) i ≡ bit (operand (taint_words y vs (operand_taints t y)) p) i
no_words t x y vs none found clear e same empty = λ p i.
    let free : list_any has_one (taints_under t y.operands) ≡ false = have_taint t y.operands ∙ ap (λ (c : Cell). list_any (list_any (src_taint t)) c.operands) (sym same) ∙ sym e ∙ clear in
    ap (λ (ws : List Word). bit (operand ws p) i) empty ∙ sym (bits_are_clear y vs (operand_taints t y) (from_test (operand_taints t y) free) p i)

-- where it does, the words are those of its rule
pub rule_words : (t : ℕ → Bool) (x y : Cell) (vs ts given ws : List Word) → x ≡ y → given ≡ ts → ts ≡ operand_taints t x → ws ≡ taint_words x vs given → (p i : ℕ) → bit (operand ws p) i ≡ bit (operand (taint_words y vs (operand_taints t y)) p) i
rule_words t x y vs ts given ws same g e h = λ p i.
    ap (λ (us : List Word). bit (operand us p) i) (h ∙ ap (λ (us : List Word). taint_words x vs us) (g ∙ e) ∙ ap (λ (c : Cell). taint_words c vs (operand_taints t c)) same)
