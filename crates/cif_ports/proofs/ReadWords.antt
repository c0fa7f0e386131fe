-- What is read at a port, as a word of values and as a word of taints.
use Rattle.std.specs.Prelude.{ℕ, zero, suc, ◌<◌, ◌≤◌, ◌≡◌, ◌^◌, Bool, true, false, List, [], ◌∷◌, get_or, length, refl}
use Rattle.std.proofs.Common.{arith, ap, sym, ◌∙◌}
use Rattle.std.proofs.lemmas.List.{take_all}
use Rattle.cif_defs.specs.Words.{bit, number, word_of}
use Rattle.cif_defs.specs.Run.{src_bit, src_word}
use Rattle.cif_defs.specs.TaintRun.{src_taint, taint_word}
use Rattle.cif_defs.specs.declared.nets.Src.{Src}
use Rattle.cif_defs.specs.declared.nets.Src.TheVariants.{Bit, Zero, One}
use Rattle.cif_defs.proofs.WordNumbers.{word_of-number}
use Rattle.cif_bits.proofs.WordForms.{IsNumberBelow}
use Rattle.cif_ports.specs.ReadBits.{read_bit, read_word}

read_value : (v : ℕ → Bool) (s : Src) → read_bit true v s ≡ src_bit v s
read_value v (Bit b) = refl
read_value v Zero = refl
read_value v One = refl

read_taint : (t : ℕ → Bool) (s : Src) → read_bit false t s ≡ src_taint t s
read_taint t (Bit b) = refl
read_taint t Zero = refl
read_taint t One = refl

pub read_values : (v : ℕ → Bool) (ss : List Src) → read_word true v ss ≡ src_word v ss
read_values v [] = refl
read_values v (s ∷ ss) = rw (read_value v s, read_values v ss) refl

pub read_taints : (t : ℕ → Bool) (ss : List Src) → read_word false t ss ≡ taint_word t ss
read_taints t [] = refl
read_taints t (s ∷ ss) = rw (read_taint t s, read_taints t ss) refl

pub length-read : (one : Bool) (v : ℕ → Bool) (ss : List Src) → length (read_word one v ss) ≡ length ss
length-read one v [] = refl
length-read one v (s ∷ ss) = ap suc (length-read one v ss)

bit-read_at : (one : Bool) (v : ℕ → Bool) (ss : List Src) (i : ℕ) (d : Src) → i < length ss → bit (read_word one v ss) i ≡ read_bit one v (get_or ss i d)
bit-read_at one v [] i d l = absurd (omega arith)
bit-read_at one v (s ∷ ss) zero d l = refl
bit-read_at one v (s ∷ ss) (suc i) d l = bit-read_at one v ss i d (omega arith)

-- a bit of what is read, as it was found
pub bit-read : (one : Bool) (v : ℕ → Bool) (ss : List Src) (i : ℕ) (d : Src) (b x : Bool) → i < length ss → b ≡ read_bit one v (get_or ss i d) → b ≡ x → bit (read_word one v ss) i ≡ x
bit-read one v ss i d b x l h q = bit-read_at one v ss i d l ∙ sym h ∙ q

-- once all bits are read
pub all_read : (one : Bool) (v : ℕ → Bool) (ss : List Src) (i total : ℕ) → length ss ≤ i → i ≤ length ss → IsNumberBelow (read_word one v ss) i total → word_of (length ss) total ≡ read_word one v ss
all_read one v ss i total l u h =
    let size : length (read_word one v ss) ≡ length ss = length-read one v ss in
    ap (λ k. word_of (length ss) k) (h.value ∙ ap number (take_all i (read_word one v ss) (omega arith))) ∙ word_of-number (length ss) (read_word one v ss) size

pub fits_all : (one : Bool) (v : ℕ → Bool) (ss : List Src) (i total : ℕ) → length ss ≤ i → i ≤ length ss → IsNumberBelow (read_word one v ss) i total → total < 2 ^ length ss
fits_all one v ss i total l u h = let same : i ≡ length ss = omega arith in let below : total < 2 ^ i = h.below in let p : 2 ^ i ≡ 2 ^ length ss = ap (λ k. 2 ^ k) same in omega arith
