-- What all bits of a word say, from its number.
use Rattle.std.specs.Prelude.{ℕ, zero, suc, ◌+◌, ◌-◌, ◌*◌, ◌/◌, ◌%◌, ◌^◌, ◌<◌, ◌≤◌, ◌≡◌, ◌==◌, Bool, true, false, not, ◌&&◌, [], ◌∷◌, length, refl}
use Rattle.std.specs.Int.RustNames.{count_ones}
use Rattle.std.proofs.Common.{arith, sym, ap, ◌∙◌}
use Rattle.std.proofs.lemmas.Bool.Decides.{nat_tests}
use Rattle.std.proofs.lemmas.Nat.{ones_cat, pow_pos}
use Rattle.std.proofs.Math.Pow.{pow_mono}
use Rattle.std.proofs.Math.Nat.{pow-succ'}
use Rattle.cif_defs.specs.Words.{Word, bit, bit_value, digit, flag_word, has_one, is_all_ones, number, parity, top, word_of, xor}
use Rattle.cif_defs.proofs.WordLaws.{length-word}
use Rattle.word_numbers.proofs.Digits.{bit-held_by, digit_above, number-held, word_of-digits}

has_one-number : (w : Word) → not (number w == 0) ≡ has_one w
has_one-number [] = refl
has_one-number (true ∷ w) = grind (arith, nat_tests)
has_one-number (false ∷ w) =
    let rest : not (number w == 0) ≡ has_one w = has_one-number w in
    let same : (0 + 2 * number w == 0) ≡ (number w == 0) = grind (arith, nat_tests) in
    ap not same ∙ rest

pub has_one-held : (n x : ℕ) → x < 2 ^ n → not (x == 0) ≡ has_one (word_of n x)
has_one-held n x h = sym (ap (λ k. not (k == 0)) (number-held n x h)) ∙ has_one-number (word_of n x)

all_ones-number : (w : Word) → (number w == 2 ^ length w - 1) ≡ is_all_ones w
all_ones-number [] = refl
all_ones-number (true ∷ w) =
    let rest : (number w == 2 ^ length w - 1) ≡ is_all_ones w = all_ones-number w in
    let double : 2 ^ suc (length w) ≡ 2 * 2 ^ length w = pow-succ' 2 (length w) in
    ap (λ k. 1 + 2 * number w == k - 1) double ∙ doubled (number w) (2 ^ length w) (omega (arith, pow_pos (length w))) ∙ rest where
      doubled : (x p : ℕ) → 0 < p → (1 + 2 * x == 2 * p - 1) ≡ (x == p - 1)
      doubled x p h = grind (arith, nat_tests)
all_ones-number (false ∷ w) =
    let double : 2 ^ suc (length w) ≡ 2 * 2 ^ length w = pow-succ' 2 (length w) in
    ap (λ k. 0 + 2 * number w == k - 1) double ∙ odd (number w) (2 ^ length w) (omega (arith, pow_pos (length w))) where
      odd : (x p : ℕ) → 0 < p → (0 + 2 * x == 2 * p - 1) ≡ false
      odd x p h = grind (arith, nat_tests)

pub all_ones-held : (n x m : ℕ) → x < 2 ^ n → m ≡ 2 ^ n - 1 → (x == m) ≡ is_all_ones (word_of n x)
all_ones-held n x m h e =
    let long : length (word_of n x) ≡ n = length-word n (λ i. digit x i) in
    ap (λ k. x == k) e ∙ sym (ap (λ k. k == 2 ^ length (word_of n x) - 1) (number-held n x h) ∙ ap (λ k. x == 2 ^ k - 1) long) ∙ all_ones-number (word_of n x)

one_more : (b : Bool) (x : ℕ) → ((x + bit_value b) % 2 == 1) ≡ xor b (x % 2 == 1)
one_more true x = grind (arith, nat_tests)
one_more false x = ap (λ k. k % 2 == 1) (omega arith)

ones_bit : (b : Bool) → count_ones (bit_value b) ≡ bit_value b
unfolding count_ones
ones_bit true = refl
ones_bit false = refl

parity-number : (w : Word) → (count_ones (number w) % 2 == 1) ≡ parity w
parity-number [] = ap (λ k. k % 2 == 1) (ones_bit false)
parity-number (b ∷ w) =
    let rest : (count_ones (number w) % 2 == 1) ≡ parity w = parity-number w in
    let apart : bit_value b + 2 * number w ≡ number w * 2 ^ 1 + bit_value b = omega arith in
    ap (λ k. count_ones k % 2 == 1) apart ∙ ap (λ k. k % 2 == 1) (ones_cat 1 (number w) (bit_value b) (small b))
    ∙ ap (λ k. (count_ones (number w) + k) % 2 == 1) (ones_bit b) ∙ one_more b (count_ones (number w)) ∙ ap (xor b) rest where
      small : (b : Bool) → bit_value b < 2 ^ 1
      small true = omega arith
      small false = omega arith

pub parity-held : (n x : ℕ) → x < 2 ^ n → (count_ones x % 2 == 1) ≡ parity (word_of n x)
parity-held n x h = sym (ap (λ k. count_ones k % 2 == 1) (number-held n x h)) ∙ parity-number (word_of n x)

pub top-held : (n x : ℕ) → 1 ≤ n → digit x (n - 1) ≡ top (word_of n x)
top-held n x h = sym (ap (λ k. bit (word_of n x) (k - 1)) (length-word n (λ i. digit x i)) ∙ bit-held_by n x (n - 1) false (omega arith))

-- ---- a single bit

pub word_of-flag : (n x : ℕ) (b : Bool) → x ≡ bit_value b → word_of n x ≡ flag_word n b
word_of-flag n x b e = ap (word_of n) e ∙ word_of-digits n (bit_value b) _ (λ i h. place b i) where
  lowest : (b : Bool) → (bit_value b / 2 ^ 0 % 2 == 1) ≡ b
  lowest true = refl
  lowest false = refl

  small : (b : Bool) → bit_value b < 2 ^ 1
  small true = omega arith
  small false = omega arith

  place : (b : Bool) (i : ℕ) → digit (bit_value b) i ≡ (i == 0 && b)
  place b zero = lowest b
  place b (suc i) =
      let later : (suc i == 0) ≡ false = grind (arith, nat_tests) in
      digit_above 1 (bit_value b) (suc i) (small b) (omega arith) ∙ sym (ap (λ t. t && b) later)

pub flag_below : (n x : ℕ) (b : Bool) → x ≡ bit_value b → 1 ≤ n → x < 2 ^ n
flag_below n x true e h = omega (arith, pow_mono {i = 1} {j = n} h)
flag_below n x false e h = omega (arith, pow_pos n)
