-- Words as the words of their bits, and lists of words of given widths.
use Rattle.std.specs.Prelude.{ℕ, ◌≡◌, false, List, [], ◌∷◌, map, length}
use Rattle.std.proofs.Common.{arith, sym, ◌∙◌}
use Rattle.cif_defs.specs.Words.{Word, bit, word}
use Rattle.cif_defs.proofs.WordLaws.{bit-word, length-word, same_words}

pub word_of_bits : (w : Word) (n : ℕ) → length w ≡ n → w ≡ word n (λ i. bit w i)
word_of_bits w n e = same_words w (word n (λ i. bit w i)) (e ∙ sym (length-word n (λ i. bit w i))) (λ i h. sym (bit-word n (λ k. bit w k) i false (omega arith)))

-- ---- words of given widths

pub one_word : (P : List Word → Type 0) (n : ℕ) → ((v : Word) → length v ≡ n → P (v ∷ [])) → (vs : List Word) → map length vs ≡ n ∷ [] → P vs
one_word P n h [] e = absurd (cc)
one_word P n h (v ∷ []) e = h v (cc)
one_word P n h (v ∷ w ∷ vs) e = absurd (cc)

pub two_words : (P : List Word → Type 0) (m n : ℕ) → ((v w : Word) → length v ≡ m → length w ≡ n → P (v ∷ w ∷ [])) → (vs : List Word) → map length vs ≡ m ∷ n ∷ [] → P vs
two_words P m n h [] e = absurd (cc)
two_words P m n h (v ∷ []) e = absurd (cc)
two_words P m n h (v ∷ w ∷ []) e = h v w (cc) (cc)
two_words P m n h (v ∷ w ∷ x ∷ vs) e = absurd (cc)

pub three_words : (P : List Word → Type 0) (m n k : ℕ) → ((v w x : Word) → length v ≡ m → length w ≡ n → length x ≡ k → P (v ∷ w ∷ x ∷ [])) → (vs : List Word) → map length vs ≡ m ∷ n ∷ k ∷ [] → P vs
three_words P m n k h [] e = absurd (cc)
three_words P m n k h (v ∷ []) e = absurd (cc)
three_words P m n k h (v ∷ w ∷ []) e = absurd (cc)
three_words P m n k h (v ∷ w ∷ x ∷ []) e = h v w x (cc) (cc) (cc)
three_words P m n k h (v ∷ w ∷ x ∷ y ∷ vs) e = absurd (cc)
