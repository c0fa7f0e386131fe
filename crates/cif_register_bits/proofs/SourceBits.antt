-- The bits of words that are read.
use Rattle.std.specs.Prelude.{ℕ, zero, suc, ◌<◌, ◌≤◌, ◌≡◌, Bool, false, List, [], ◌∷◌, length, get_or, refl}
use Rattle.std.proofs.Common.{arith, ap, sym, ◌∙◌}
use Rattle.std.proofs.lemmas.List.{get_or_past}
use Rattle.cif_defs.specs.Words.{bit, operand}
use Rattle.cif_defs.specs.Run.{src_bit, src_word, words_under}
use Rattle.cif_defs.specs.TaintRun.{src_taint, taint_word, taints_under}
use Rattle.cif_defs.specs.declared.nets.Src.{Src}
use Rattle.cif_defs.proofs.Levels.{operand-words_under}
use Rattle.cif_defs.proofs.TaintSettles.{operand-taints_under}
use Rattle.cif_register_bits.specs.declared.tainted_bit.TaintedBit.{TaintedBit}
use Rattle.cif_register_bits.specs.Choices.{bit_with}
use Rattle.cif_register_bits.proofs.SourceWidths.{length-source, length-taint}

pub bit-source : (v : ℕ → Bool) (ss : List Src) (i : ℕ) (d : Src) → i < length ss → bit (src_word v ss) i ≡ src_bit v (get_or ss i d)
bit-source v [] i d h = absurd (omega arith)
bit-source v (s ∷ ss) zero d h = refl
bit-source v (s ∷ ss) (suc i) d h = bit-source v ss i d (omega arith)

pub bit-taint : (v : ℕ → Bool) (ss : List Src) (i : ℕ) (d : Src) → i < length ss → bit (taint_word v ss) i ≡ src_taint v (get_or ss i d)
bit-taint v [] i d h = absurd (omega arith)
bit-taint v (s ∷ ss) zero d h = refl
bit-taint v (s ∷ ss) (suc i) d h = bit-taint v ss i d (omega arith)

pub bit-source_past : (v : ℕ → Bool) (ss : List Src) (i : ℕ) → length ss ≤ i → bit (src_word v ss) i ≡ false
bit-source_past v ss i h = get_or_past (src_word v ss) i false (let e : length (src_word v ss) ≡ length ss = length-source v ss in omega arith)

pub bit-taint_past : (v : ℕ → Bool) (ss : List Src) (i : ℕ) → length ss ≤ i → bit (taint_word v ss) i ≡ false
bit-taint_past v ss i h = get_or_past (taint_word v ss) i false (let e : length (taint_word v ss) ≡ length ss = length-taint v ss in omega arith)

abbrev pair : Bool → Bool → TaintedBit
pair b t = record { value = b; taint = t }

same_bit : (b t u v : Bool) → b ≡ u → t ≡ v → pair b t ≡ pair u v
same_bit b t u v e f = cc

-- a bit of the word at operand p of those that read these bits
pub operand_read : (v t : ℕ → Bool) (ops : List (List Src)) (p i : ℕ) (ss : List Src) (x : TaintedBit) → ss ≡ get_or ops p [] → x.value ≡ bit (src_word v ss) i → x.taint ≡ bit (taint_word t ss) i
    → x ≡ bit_with (operand (words_under v ops) p) (operand (taints_under t ops) p) i
operand_read v t ops p i ss x e f g =
    same_bit x.value x.taint _ _
    (f ∙ ap (λ us. bit (src_word v us) i) e ∙ sym (ap (λ us. bit us i) (operand-words_under v ops p)))
    (g ∙ ap (λ us. bit (taint_word t us) i) e ∙ sym (ap (λ us. bit us i) (operand-taints_under t ops p)))
