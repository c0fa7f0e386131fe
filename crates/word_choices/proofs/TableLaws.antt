-- A table's digits as the operand A of $bmux.
use Rattle.std.specs.Prelude.{ℕ, zero, suc, ◌+◌, ◌*◌, ◌^◌, ◌<◌, ◌≤◌, ◌≡◌, ◌==◌, Bool, false, ◌&&◌, List, [], ◌∷◌, length}
use Rattle.std.proofs.Common.{arith, sym, ap, subst, ◌∙◌}
use Rattle.std.proofs.lemmas.List.{take_all}
use Rattle.std.proofs.Math.Pow.{pow_mono}
use Rattle.cif_defs.specs.Words.{Word, bit, digit, number, operand, word, word_of}
use Rattle.cif_defs.specs.Completions.{can_differ}
use Rattle.cif_defs.specs.Meanings.{bmux_word, lut_word}
use Rattle.cif_defs.proofs.Numbers.{word-same}
use Rattle.cif_defs.proofs.WordLaws.{bit-word, length-word}
use Rattle.cif_defs.proofs.WordNumbers.{word_of-number}
use Rattle.cif_bits.proofs.WordForms.{IsNumberBelow}
use Rattle.word_numbers.proofs.Digits.{bit-held, number-held}
use Rattle.word_choices.specs.declared.shadowed.Shadowed.{Shadowed}
use Rattle.word_choices.specs.Shadows.{exact_word, two_taints, two_values}
use Rattle.word_choices.proofs.Untainted.{known_first, no_taint}

-- ---- $lut is $bmux of its table

table_bit : (v a : Word) (i : ℕ) → i < 1 → bit (bmux_word 1 v a) i ≡ bit (lut_word v a) i
table_bit v a zero h =
    let place : number a * 1 + 0 ≡ number a = omega arith in
    bit-word 1 (λ k. bit v (number a * 1 + k)) 0 false h ∙ ap (bit v) place ∙ sym (bit-word 1 (λ k. k == 0 && bit v (number a)) 0 false h)
table_bit v a (suc i) h = absurd (omega arith)

table_differs : (v a t : Word) (n i : ℕ) → i < 1
    → can_differ (λ us. bit (bmux_word 1 (operand us 0) (operand us 1)) i) (v ∷ a ∷ []) (word_of n 0 ∷ t ∷ []) ≡ can_differ (λ us. bit (lut_word v (operand us 0)) i) (a ∷ []) (t ∷ [])
table_differs v a t n i h =
    known_first (λ us. bit (bmux_word 1 (operand us 0) (operand us 1)) i) v (word_of n 0) (a ∷ []) (t ∷ []) (no_taint n)
    ∙ ap (λ (f : List Word → Bool). can_differ f (a ∷ []) (t ∷ [])) (λ j us. table_bit v (operand us 0) i h j)

-- r is the taint of what $bmux gives of blocks of w bits
abbrev pub IsChoiceTaint : ℕ → ℕ → Shadowed → Shadowed → ℕ → Type 0
IsChoiceTaint w m p q r = word_of w r ≡ exact_word w (λ us. bmux_word w (operand us 0) (operand us 1)) (two_values (w * 2 ^ m) m p q) (two_taints (w * 2 ^ m) m p q)

abbrev plain_table : ℕ → Shadowed
plain_table d = record { value = d; taint = 0 }

plain_exact : (m d r : ℕ) (q : Shadowed) → IsChoiceTaint 1 m (plain_table d) q r → word_of 1 r ≡ exact_word 1 (λ us. lut_word (word_of (2 ^ m) d) (operand us 0)) (word_of m q.value ∷ []) (word_of m q.taint ∷ [])
plain_exact m d r q e =
    let one : 1 * 2 ^ m ≡ 2 ^ m = omega arith in
    e ∙ word-same 1 _ _ (λ i h. table_differs (word_of (1 * 2 ^ m) d) (word_of m q.value) (word_of m q.taint) (1 * 2 ^ m) i h)
    ∙ ap (λ k. exact_word 1 (λ us. lut_word (word_of k d) (operand us 0)) (word_of m q.value ∷ []) (word_of m q.taint ∷ [])) one

pub lut_exact : (w k m d r : ℕ) (p q : Shadowed) → w ≡ 1 → k ≡ m → p ≡ plain_table d → IsChoiceTaint w k p q r → word_of 1 r ≡ exact_word 1 (λ us. lut_word (word_of (2 ^ m) d) (operand us 0)) (word_of m q.value ∷ []) (word_of m q.taint ∷ [])
lut_exact w k m d r p q ew ek ep e =
    plain_exact m d r q (subst (λ (x : Shadowed). IsChoiceTaint 1 m x q r) ep (subst (λ x. IsChoiceTaint 1 x p q r) ek (subst (λ x. IsChoiceTaint x k p q r) ew e)))

pub lut_by : (m d a r : ℕ) → d < 2 ^ (2 ^ m) → a < 2 ^ m → ((n : ℕ) → 1 ≤ n → word_of n r ≡ word n (λ i. i == 0 && digit d a)) → word_of 1 r ≡ lut_word (word_of (2 ^ m) d) (word_of m a)
lut_by m d a r fits inside e =
    e 1 (omega arith) ∙ ap (λ b. word 1 (λ i. i == 0 && b)) (sym (ap (bit (word_of (2 ^ m) d)) (number-held m a inside) ∙ bit-held (2 ^ m) d a fits))

-- a place of at most 128 digits
pub place_few : (m a : ℕ) → m ≤ 7 → a < 2 ^ m → a < 128
place_few m a h l = let most : 2 ^ m ≤ 2 ^ 7 = pow_mono h in omega arith

pub digits_few : (m : ℕ) → m ≤ 7 → 2 ^ m ≤ 128
digits_few m h = let most : 2 ^ m ≤ 2 ^ 7 = pow_mono h in omega arith

-- ---- digits read one by one

pub all_digits : (n total i : ℕ) (f : ℕ → Bool) → i ≡ n → IsNumberBelow (word n f) i total → word_of n total ≡ word n f
all_digits n total i f e h =
    let size : length (word n f) ≡ n = length-word n f in
    ap (λ k. word_of n k) (h.value ∙ ap number (take_all i (word n f) (omega arith))) ∙ word_of-number n (word n f) size

pub all_fit : (n total i : ℕ) (f : ℕ → Bool) → i ≡ n → IsNumberBelow (word n f) i total → total < 2 ^ n
all_fit n total i f e h = subst (λ k. total < 2 ^ k) e h.below
