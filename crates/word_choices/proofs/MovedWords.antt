-- Moved, cut and extended words, by the places that they read.
use Rattle.std.specs.Prelude.{ℕ, ◌+◌, ◌-◌, ◌<◌, ◌≤◌, ◌≡◌, nat_le, nat_lt, min, Bool, true, false, ◌&&◌, get_or}
use Rattle.std.proofs.Common.{arith, sym, ap, ◌∙◌, inl, inr}
use Rattle.std.proofs.lemmas.Bool.Decides.{nat_tests}
use Rattle.cif_defs.specs.Words.{bit, top, word, word_of}
use Rattle.cif_defs.proofs.Numbers.{word-same}
use Rattle.cif_defs.proofs.WordLaws.{bit-word, le_or_lt, length-word, past_word}
use Rattle.rule_select.proofs.MoveReads.{left_at, left_place, left_under}
use Rattle.rule_select.proofs.PlacedParts.{bit_within}
use Rattle.word_numbers.specs.HeldWords.{lowered_word, raised_word}
use Rattle.word_numbers.proofs.Digits.{digits-word_of, word_of-digits}

-- a word that is known by places, cut
pub narrower : (w n x : ℕ) (g : ℕ → Bool) → n ≤ w → word_of w x ≡ word w g → word_of n x ≡ word n g
narrower w n x g h e = word_of-digits n x g (λ i l. digits-word_of w x g e i (omega arith))

pub raised_by : (n k : ℕ) (f : ℕ → Bool) → raised_word k (word n f) ≡ word n (λ i. nat_le k i && f (i - k))
raised_by n k f =
    ap (λ m. word m (λ i. nat_le k i && bit (word n f) (i - k))) (length-word n f)
    ∙ word-same n _ _ (λ i h. ap (λ b. nat_le k i && b) (bit-word n f (i - k) false (omega arith)))

pub lowered_by : (n k : ℕ) (fill : Bool) (f : ℕ → Bool) → lowered_word k fill (word n f) ≡ word n (λ i. get_or (word n f) (i + k) fill)
lowered_by n k fill f = ap (λ m. word m (λ i. get_or (word n f) (i + k) fill)) (length-word n f)

-- ---- as the stages of trees read

pub up_reads : (w p : ℕ) (g : ℕ → Bool) → raised_word p (word w g) ≡ word w (λ i. nat_lt (left_place w p i) w && g (left_place w p i))
up_reads w p g = raised_by w p g ∙ word-same w _ _ (λ i h. place i h) where
  place : (i : ℕ) → i < w → (nat_le p i && g (i - p)) ≡ (nat_lt (left_place w p i) w && g (left_place w p i))
  place i h = elim (le_or_lt i p) [
    | inl l ↦ (let t : nat_le p i ≡ false = grind (arith, nat_tests) in
        let u : nat_lt w w ≡ false = grind (arith, nat_tests) in
        ap (λ b. b && g (i - p)) t ∙ sym (ap (λ k. nat_lt k w && g k) (left_under w p i l) ∙ ap (λ b. b && g w) u))
    | inr l ↦ (let t : nat_le p i ≡ true = grind (arith, nat_tests) in
        let u : nat_lt (i - p) w ≡ true = grind (arith, nat_tests) in
        ap (λ b. b && g (i - p)) t ∙ sym (ap (λ k. nat_lt k w && g k) (left_at w p i l) ∙ ap (λ b. b && g (i - p)) u))
  ]

pub down_reads : (w p : ℕ) (g : ℕ → Bool) → lowered_word p false (word w g) ≡ word w (λ i. nat_lt (i + p) w && g (i + p))
down_reads w p g = lowered_by w p false g ∙ word-same w _ _ (λ i h. bit_within w g (i + p))

pub signed_reads : (w p : ℕ) (g : ℕ → Bool) → 1 ≤ w → lowered_word p (top (word w g)) (word w g) ≡ word w (λ i. nat_lt (min (i + p) (w - 1)) w && g (min (i + p) (w - 1)))
signed_reads w p g some = lowered_by w p (top (word w g)) g ∙ word-same w _ _ (λ i h. place i h) where
  last : top (word w g) ≡ g (w - 1)
  last = ap (λ k. bit (word w g) (k - 1)) (length-word w g) ∙ bit-word w g (w - 1) false (omega arith)

  place : (i : ℕ) → i < w → get_or (word w g) (i + p) (top (word w g)) ≡ (nat_lt (min (i + p) (w - 1)) w && g (min (i + p) (w - 1)))
  place i h =
      let inside : nat_lt (min (i + p) (w - 1)) w ≡ true = (let l : min (i + p) (w - 1) < w = omega arith in grind (arith, nat_tests)) in
      elim (le_or_lt (i + p) w) [
        | inl l ↦ (let same : i + p ≡ min (i + p) (w - 1) = omega arith in
            bit-word w g (i + p) (top (word w g)) l ∙ ap g same ∙ sym (ap (λ b. b && g (min (i + p) (w - 1))) inside))
        | inr l ↦ (let same : w - 1 ≡ min (i + p) (w - 1) = omega arith in
            past_word w g (i + p) (top (word w g)) l ∙ last ∙ ap g same ∙ sym (ap (λ b. b && g (min (i + p) (w - 1))) inside))
      ]

pub kept_reads : (w : ℕ) (g : ℕ → Bool) → word w g ≡ word w (λ i. nat_lt i w && g i)
kept_reads w g = word-same w _ _ (λ i h. let t : nat_lt i w ≡ true = grind (arith, nat_tests) in sym (ap (λ b. b && g i) t))
