-- Operands without taint.
use Rattle.std.specs.Prelude.{ℕ, suc, ◌%◌, ◌^◌, ◌≡◌, ◌==◌, Bool, true, false, not, ◌&&◌, List, [], ◌∷◌, length, refl}
use Rattle.std.proofs.Common.{arith, sym, ap, ◌∙◌}
use Rattle.std.proofs.lemmas.Nat.{pow_pos}
use Rattle.std.proofs.Math.Nat.{zero-div}
use Rattle.cif_defs.specs.Words.{Word, bit, digit, word_of}
use Rattle.cif_defs.specs.Completions.{can_differ, some_word, some_words}
use Rattle.word_numbers.specs.HeldWords.{held, words_held}
use Rattle.word_numbers.specs.declared.words.Words.{Words}
use Rattle.word_numbers.proofs.Digits.{bit-held, word_of-digits}
use Rattle.word_choices.specs.Shadows.{AreUntainted, exact_word}

digit_zero : (i : ℕ) → digit 0 i ≡ false
digit_zero i = ap (λ k. k % 2 == 1) (zero-div (2 ^ i))

pub no_taint : (n i : ℕ) → bit (word_of n 0) i ≡ false
no_taint n i = bit-held n 0 i (pow_pos n) ∙ digit_zero i

known_word : (v t : Word) (p : Word → Bool) → ((i : ℕ) → bit t i ≡ false) → some_word v t p ≡ p v
known_word [] t p h = refl
known_word (b ∷ v) [] p h = known_word v [] (λ u. p (b ∷ u)) h
known_word (b ∷ v) (true ∷ t) p h = absurd (let e : true ≡ false = h 0 in cc)
known_word (b ∷ v) (false ∷ t) p h = known_word v t (λ u. p (b ∷ u)) (λ i. h (suc i))

-- a first operand without taint is a constant
pub known_first : (f : List Word → Bool) (v t : Word) (vs ts : List Word) → ((i : ℕ) → bit t i ≡ false) → can_differ f (v ∷ vs) (t ∷ ts) ≡ can_differ (λ us. f (v ∷ us)) vs ts
unfolding can_differ
known_first f v t vs ts h =
    ap (λ b. b && some_word v t (λ u. some_words vs ts (λ us. not (f (u ∷ us))))) (known_word v t (λ u. some_words vs ts (λ us. f (u ∷ us))) h)
    ∙ ap (λ b. some_words vs ts (λ us. f (v ∷ us)) && b) (known_word v t (λ u. some_words vs ts (λ us. not (f (u ∷ us)))) h)

-- without operands nothing differs
alone : (f : List Word → Bool) → can_differ f [] [] ≡ false
unfolding can_differ
alone f = both (f []) where
  both : (b : Bool) → (b && not b) ≡ false
  both true = refl
  both false = refl

abbrev AreZero : List ℕ → Type 0
AreZero [] = Unit {0}
AreZero (z ∷ zs) = (z ≡ 0) × AreZero zs

none_differs : (ns xs zs : List ℕ) (f : List Word → Bool) → length xs ≡ length zs → AreZero zs → can_differ f (held ns xs) (held ns zs) ≡ false
none_differs [] xs zs f e h = alone f
none_differs (n ∷ ns) [] [] f e h = alone f
none_differs (n ∷ ns) [] (z ∷ zs) f e h = absurd (omega arith)
none_differs (n ∷ ns) (x ∷ xs) [] f e h = absurd (omega arith)
none_differs (n ∷ ns) (x ∷ xs) (z ∷ zs) f e h =
    known_first f (word_of n x) (word_of n z) (held ns xs) (held ns zs) (λ i. ap (λ k. bit (word_of n k) i) h.0 ∙ no_taint n i)
    ∙ none_differs ns xs zs (λ us. f (word_of n x ∷ us)) (omega arith) h.1

-- nothing that untainted operands give is tainted
pub untainted_exact : (n : ℕ) (row : List Word → Word) (ns : List ℕ) (vs ts : Words) → AreUntainted ts → word_of n 0 ≡ exact_word n row (words_held ns vs) (words_held ns ts)
untainted_exact n row ns vs ts h = word_of-digits n 0 _ (λ i l. digit_zero i
    ∙ sym (none_differs ns (vs.a ∷ vs.b ∷ vs.c ∷ vs.d ∷ []) (ts.a ∷ ts.b ∷ ts.c ∷ ts.d ∷ []) (λ us. bit (row us) i) refl (h.a, (h.b, (h.c, (h.d, tt))))))
