-- The bits of the words that numbers hold, and the words of bitwise operations on numbers.
use Rattle.std.specs.Prelude.{ℕ, ◌+◌, ◌-◌, ◌*◌, ◌/◌, ◌%◌, ◌^◌, ◌<◌, ◌≤◌, ◌≡◌, ◌==◌, Bool, true, false, not, ◌&&◌, ◌||◌, bit_and, bit_or, bit_xor, get_or}
use Rattle.std.specs.Int.{bit_at, w128}
use Rattle.std.proofs.Common.{arith, sym, ap, ◌∙◌, inl, inr}
use Rattle.std.proofs.lemmas.Bool.Decides.{nat_tests}
use Rattle.std.proofs.lemmas.Nat.{and_le_l, shr-shr}
use Rattle.std.proofs.lemmas.Nat.Bits.{bit_at-lt, bit_at_above, bit_at_not, bit_at_ones, bit_at_cat_low, bit_at_cat_high}
use Rattle.std.proofs.Math.Nat.{mod-eq_of_lt}
use Rattle.cif_defs.specs.Words.{Word, bit, digit, number, word, word_of, xor}
use Rattle.cif_defs.specs.Meanings.{and_word, or_word, xor_word, not_word}
use Rattle.cif_defs.proofs.WordLaws.{bit-word, le_or_lt, past_word}
use Rattle.cif_defs.proofs.Numbers.{word-same}
use Rattle.cif_defs.proofs.WordNumbers.{number-word_of}
use Rattle.cif_arith.proofs.Carries.{digit-and, digit-or, digit-xor}

-- ---- bits

-- a number has no digits past its width
pub digit_above : (n x i : ℕ) → x < 2 ^ n → n ≤ i → digit x i ≡ false
digit_above n x i h l = ap (λ k. k == 1) (bit_at_above x n i h l)

pub bit-held_by : (n x i : ℕ) (d : Bool) → i < n → get_or (word_of n x) i d ≡ digit x i
bit-held_by n x i d h = bit-word n (λ k. digit x k) i d h

-- at any place, where the number fits
pub bit-held : (n x i : ℕ) → x < 2 ^ n → bit (word_of n x) i ≡ digit x i
bit-held n x i h = elim (le_or_lt i n) [
  | inl l ↦ bit-held_by n x i false l
  | inr l ↦ past_word n (λ k. digit x k) i false l ∙ sym (digit_above n x i h l)
]

pub number-held : (n x : ℕ) → x < 2 ^ n → number (word_of n x) ≡ x
number-held n x h = number-word_of n x ∙ mod-eq_of_lt h

-- the word of a number, from its digits
pub word_of-digits : (n x : ℕ) (f : ℕ → Bool) → ((i : ℕ) → i < n → digit x i ≡ f i) → word_of n x ≡ word n f
word_of-digits n x f h = word-same n _ f h

-- the digits of a number, from its word
pub digits-word_of : (n x : ℕ) (f : ℕ → Bool) → word_of n x ≡ word n f → (i : ℕ) → i < n → digit x i ≡ f i
digits-word_of n x f e i h = sym (bit-held_by n x i false h) ∙ ap (λ (w : Word). bit w i) e ∙ bit-word n f i false h

-- ---- bit by bit, from words that are given by places

pub word_of-and_by : (n a b : ℕ) (f g : ℕ → Bool) → word_of n a ≡ word n f → word_of n b ≡ word n g → word_of n (bit_and a b) ≡ word n (λ i. f i && g i)
word_of-and_by n a b f g p q = word_of-digits n (bit_and a b) _ (λ i h. digit-and a b i ∙ ap (λ x. x && digit b i) (digits-word_of n a f p i h) ∙ ap (λ y. f i && y) (digits-word_of n b g q i h))

pub word_of-or_by : (n a b : ℕ) (f g : ℕ → Bool) → word_of n a ≡ word n f → word_of n b ≡ word n g → word_of n (bit_or a b) ≡ word n (λ i. f i || g i)
word_of-or_by n a b f g p q = word_of-digits n (bit_or a b) _ (λ i h. digit-or a b i ∙ ap (λ x. x || digit b i) (digits-word_of n a f p i h) ∙ ap (λ y. f i || y) (digits-word_of n b g q i h))

pub word_of-xor_by : (n a b : ℕ) (f g : ℕ → Bool) → word_of n a ≡ word n f → word_of n b ≡ word n g → word_of n (bit_xor a b) ≡ word n (λ i. xor (f i) (g i))
word_of-xor_by n a b f g p q = word_of-digits n (bit_xor a b) _ (λ i h. digit-xor a b i ∙ ap (λ x. xor x (digit b i)) (digits-word_of n a f p i h) ∙ ap (λ y. xor (f i) y) (digits-word_of n b g q i h))

-- the complement, as an operation on words has it
pub not_word-by : (n a b : ℕ) (f : ℕ → Bool) → word_of n b ≡ not_word n false (word_of n a) → word_of n a ≡ word n f → word_of n b ≡ word n (λ i. not (f i))
not_word-by n a b f e p = e ∙ word-same n _ _ (λ i h. ap not (bit-held_by n a i false h ∙ digits-word_of n a f p i h))

-- ---- bit by bit, as the cells have it

pub word_of-and : (n a b : ℕ) → word_of n (bit_and a b) ≡ and_word n false (word_of n a) (word_of n b)
word_of-and n a b = word_of-and_by n a b (bit (word_of n a)) (bit (word_of n b)) (own n a) (own n b) where
  own : (n x : ℕ) → word_of n x ≡ word n (bit (word_of n x))
  own n x = word_of-digits n x _ (λ i h. sym (bit-held_by n x i false h))

pub word_of-or : (n a b : ℕ) → word_of n (bit_or a b) ≡ or_word n false (word_of n a) (word_of n b)
word_of-or n a b = word_of-or_by n a b (bit (word_of n a)) (bit (word_of n b)) (own n a) (own n b) where
  own : (n x : ℕ) → word_of n x ≡ word n (bit (word_of n x))
  own n x = word_of-digits n x _ (λ i h. sym (bit-held_by n x i false h))

pub word_of-xor : (n a b : ℕ) → word_of n (bit_xor a b) ≡ xor_word n false (word_of n a) (word_of n b)
word_of-xor n a b = word_of-xor_by n a b (bit (word_of n a)) (bit (word_of n b)) (own n a) (own n b) where
  own : (n x : ℕ) → word_of n x ≡ word n (bit (word_of n x))
  own n x = word_of-digits n x _ (λ i h. sym (bit-held_by n x i false h))

pub and_lt : (n a b : ℕ) → a < 2 ^ n → bit_and a b < 2 ^ n
and_lt n a b h = omega (arith, and_le_l a b)

-- ---- single digits

pub digit-shr : (x k i : ℕ) → digit (x / 2 ^ k) i ≡ digit x (k + i)
digit-shr x k i = ap (λ q. q % 2 == 1) (shr-shr x k i)

-- the complement of 128 bits
pub digit-not : (x i : ℕ) → x < 2 ^ 128 → i < 128 → digit (2 ^ 128 - 1 - x) i ≡ not (digit x i)
digit-not x i h k = ap (λ q. q == 1) (bit_at_not w128 x i h k) ∙ no_one (bit_at x i) (bit_at-lt x i) where
  no_one : (x : ℕ) → x < 2 → (1 - x == 1) ≡ not (x == 1)
  no_one x h = grind (arith, nat_tests)

pub digit-ones : (k i : ℕ) → i < k → digit (2 ^ k - 1) i ≡ true
digit-ones k i h = ap (λ q. q == 1) (bit_at_ones k i h)

-- ---- joined numbers

pub digit-joined_low : (high k low i : ℕ) → i < k → digit (high * 2 ^ k + low) i ≡ digit low i
digit-joined_low high k low i h = ap (λ q. q == 1) (bit_at_cat_low high k low i h)

pub digit-joined_high : (high k low i : ℕ) → low < 2 ^ k → k ≤ i → digit (high * 2 ^ k + low) i ≡ digit high (i - k)
digit-joined_high high k low i h l = ap (λ q. q == 1) (bit_at_cat_high high k low i h l)
