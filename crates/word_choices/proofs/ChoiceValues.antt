-- The values of choices, from those of the operations that make them.
use Rattle.std.specs.Prelude.{ℕ, zero, suc, ◌+◌, ◌-◌, ◌*◌, ◌^◌, ◌<◌, ◌≤◌, ◌≡◌, ◌==◌, nat_le, nat_lt, Bool, true, false, not, ◌&&◌, [], ◌∷◌, length, position, Some, None, refl, if◌then◌else◌}
use Rattle.std.specs.List.{prefix_len}
use Rattle.std.proofs.Common.{arith, sym, ap, cond, ◌∙◌, inl, inr}
use Rattle.std.proofs.lemmas.Bool.Decides.{nat_tests}
use Rattle.std.specs.Int.{trailing_zeros, w128}
use Rattle.std.proofs.lemmas.Nat.Bits.{bit_at-trailing_zeros}
use Rattle.std.proofs.Math.Pow.{pow_mono}
use Rattle.std.proofs.Math.Nat.{mul-le-mul_right}
use Rattle.cif_defs.specs.Words.{Word, bit, digit, number, word, word_of}
use Rattle.cif_defs.specs.Meanings.{bmux_word, demux_word, mux_word, pmux_bit, pmux_word, slice_word}
use Rattle.cif_defs.proofs.Numbers.{word-same}
use Rattle.cif_defs.proofs.WordLaws.{le_or_lt}
use Rattle.rule_select.proofs.BlockTrees.{twice}
use Rattle.rule_select.proofs.SelectionKinds.{block_place}
use Rattle.word_numbers.specs.HeldWords.{raised_word}
use Rattle.word_numbers.proofs.Digits.{bit-held, bit-held_by, digit_above, word_of-digits}
use Rattle.word_choices.proofs.MovedWords.{raised_by}

-- the word of a number, by its own bits
pub own_bits : (n x : ℕ) → word_of n x ≡ word n (bit (word_of n x))
own_bits n x = word_of-digits n x _ (λ i h. sym (bit-held_by n x i false h))

pub mux_by : (n a b c r : ℕ) (s : Bool) → s ≡ digit c 0 → r ≡ (if s then b else a) → word_of n r ≡ mux_word n (word_of n a) (word_of n b) (word_of 1 c)
mux_by n a b c r s q e = ap (word_of n) e ∙ by_select s ∙ ap (λ t. word n (λ i. if t then bit (word_of n b) i else bit (word_of n a) i)) (q ∙ sym (bit-held_by 1 c 0 false (omega arith))) where
  by_select : (s : Bool) → word_of n (if s then b else a) ≡ word n (λ i. if s then bit (word_of n b) i else bit (word_of n a) i)
  by_select true = own_bits n b
  by_select false = own_bits n a

pub bmux_by : (n at r : ℕ) (a s : Word) → at ≡ number s * n → word_of n r ≡ slice_word n at a → word_of n r ≡ bmux_word n a s
bmux_by n at r a s e g = g ∙ ap (λ k. word n (λ i. bit a (k + i))) e

-- ---- $demux

pub demux_by : (n m by x r : ℕ) (s : Word) → 1 ≤ n → x < 2 ^ n → by ≡ number s * n → word_of (n * 2 ^ m) r ≡ raised_word by (word_of (n * 2 ^ m) x) → word_of (n * 2 ^ m) r ≡ demux_word n m (word_of n x) s
demux_by n m by x r s some fits e g =
    let place : by ≡ n * number s = omega arith in
    g ∙ raised_by (n * 2 ^ m) by (digit x) ∙ ap (λ k. word (n * 2 ^ m) (λ i. nat_le k i && digit x (i - k))) place
    ∙ word-same (n * 2 ^ m) _ _ (λ i h. ap (λ b. nat_le (n * number s) i && b) (sym (bit-held n x (i - n * number s) fits))
    ∙ sym (block_place n (number s) i (bit (word_of n x)) some (λ k l. bit-held n x k fits ∙ digit_above n x k fits l)))

-- ---- $pmux

first_one : (s : Word) (k : ℕ) → k < length s → bit s k ≡ true → ((j : ℕ) → j < k → bit s j ≡ false) → prefix_len (λ x. not x) s ≡ k
first_one [] k h e below = absurd (omega arith)
first_one (true ∷ s) zero h e below = refl
first_one (true ∷ s) (suc k) h e below = absurd (let f : true ≡ false = below 0 (omega arith) in cc)
first_one (false ∷ s) zero h e below = absurd (cc)
first_one (false ∷ s) (suc k) h e below = ap (λ p. 1 + p) (first_one s k (omega arith) e (λ j l. below (suc j) (omega arith))) ∙ (omega arith)

no_one : (s : Word) → ((j : ℕ) → bit s j ≡ false) → prefix_len (λ x. not x) s ≡ length s
no_one [] e = refl
no_one (true ∷ s) e = absurd (let f : true ≡ false = e 0 in cc)
no_one (false ∷ s) e = ap (λ p. 1 + p) (no_one s (λ j. e (suc j))) ∙ (omega arith)

pub first_position : (s : Word) (k : ℕ) → k < length s → bit s k ≡ true → ((j : ℕ) → j < k → bit s j ≡ false) → position (λ x. x) s ≡ Some k
first_position s k h e below =
    let t : nat_lt k (length s) ≡ true = grind (arith, nat_tests) in
    ap (λ p. cond (nat_lt p (length s)) (Some p) None) (first_one s k h e below) ∙ ap (λ b. cond b (Some k) None) t

pub no_position : (s : Word) → ((j : ℕ) → bit s j ≡ false) → position (λ x. x) s ≡ None
no_position s e =
    let t : nat_lt (length s) (length s) ≡ false = grind (arith, nat_tests) in
    ap (λ p. cond (nat_lt p (length s)) (Some p) None) (no_one s e) ∙ ap (λ b. cond b (Some (length s)) None) t

pub pmux_first : (n k r : ℕ) (a b s : Word) → k < length s → bit s k ≡ true → ((j : ℕ) → j < k → bit s j ≡ false) → word_of n r ≡ slice_word n (k * n) b → word_of n r ≡ pmux_word n a b s
pmux_first n k r a b s h e below g = g ∙ sym (ap (λ p. word n (λ i. pmux_bit n a b i p)) (first_position s k h e below))

pub pmux_none : (n x : ℕ) (b s : Word) → ((j : ℕ) → bit s j ≡ false) → word_of n x ≡ pmux_word n (word_of n x) b s
pmux_none n x b s e = own_bits n x ∙ sym (ap (λ p. word n (λ i. pmux_bit n (word_of n x) b i p)) (no_position s e))

-- the lowest bit of a number that is 1, in a word that holds it
pub record IsLowest (n x k : ℕ) : Type 0 where
  pub inside : k < n
  pub set : bit (word_of n x) k ≡ true
  pub below : (j : ℕ) → j < k → bit (word_of n x) j ≡ false

pub lowest_one : (n x : ℕ) → 0 < x → n ≤ 128 → x < 2 ^ n → IsLowest n x (trailing_zeros w128 x)
lowest_one n x some few fits =
    let most : 2 ^ n ≤ 2 ^ 128 = pow_mono few in
    let place = bit_at-trailing_zeros w128 x some (omega arith) in
    let one : digit x (trailing_zeros w128 x) ≡ true = ap (λ q. q == 1) place.1 in
    record {
      inside = elim (le_or_lt (trailing_zeros w128 x) n) [
        | inl h ↦ h
        | inr h ↦ absurd (let none : true ≡ false = sym one ∙ digit_above n x (trailing_zeros w128 x) fits h in cc)
      ];
      set = bit-held n x (trailing_zeros w128 x) fits ∙ one;
      below = λ j h. bit-held n x j fits ∙ ap (λ q. q == 1) (place.2 j h);
    }

pub block_fits : (k n m : ℕ) → 1 ≤ n → k < m → n * m ≤ 128 → k * n < 128
block_fits k n m some h few = let room : (k + 1) * n ≤ m * n = mul-le-mul_right n (omega arith) in omega arith

pub next_power : (n k : ℕ) → n * 2 ^ (k + 1) ≡ n * 2 ^ k + n * 2 ^ k
next_power n k = let next : k + 1 ≡ suc k = omega arith in ap (λ j. n * 2 ^ j) next ∙ twice n k
