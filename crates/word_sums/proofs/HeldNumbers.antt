-- Numbers that hold words: their digits, bit by bit.
use Rattle.std.specs.Prelude.{ℕ, ◌-◌, ◌^◌, ◌<◌, ◌≤◌, ◌≡◌, ◌==◌, ◌⊎◌, Bool, true, false, not, ◌&&◌, ◌||◌, nat_lt, bit_and, bit_or, bit_xor, refl}
use Rattle.std.proofs.Common.{arith, sym, ap, ◌∙◌, inl, inr}
use Rattle.std.proofs.lemmas.Bool.Decides.{nat_tests}
use Rattle.std.specs.Int.{bit_at}
use Rattle.std.proofs.lemmas.Nat.{and_le_r}
use Rattle.std.proofs.lemmas.Nat.Bits.{bit_at_ones, bit_at_ones_above}
use Rattle.std.proofs.Math.Nat.{mod-eq_of_lt, pow-le-pow_right}
use Rattle.cif_defs.specs.Words.{Word, bit, digit, number, word, word_of, xor}
use Rattle.cif_defs.specs.Meanings.{not_word}
use Rattle.cif_defs.proofs.Numbers.{word-same}
use Rattle.cif_defs.proofs.WordLaws.{bit-word, le_or_lt}
use Rattle.cif_defs.proofs.WordNumbers.{digit-number, number-word_of}
use Rattle.cif_arith.proofs.Carries.{digit-and, digit-or, digit-xor}
use Rattle.word_sums.specs.BoundNumbers.{number_by}

-- the lowest n digits of x are the bits p
pub record Holds (n x : ℕ) (p : ℕ → Bool) : Type 0 where
  pub bits : (i : ℕ) → i < n → digit x i ≡ p i

pub own_bits : (n x : ℕ) → Holds n x (digit x)
own_bits n x = record { bits = λ i h. refl }

-- ---- as words, and as numbers

pub holds_word : (n x : ℕ) (p : ℕ → Bool) → Holds n x p → word_of n x ≡ word n p
holds_word n x p h = word-same n (digit x) p (λ i l. h.bits i l)

pub word_holds : (n x : ℕ) (p : ℕ → Bool) → word_of n x ≡ word n p → Holds n x p
word_holds n x p e = record { bits = λ i l. sym (bit-word n (digit x) i false l) ∙ ap (λ (w : Word). bit w i) e ∙ bit-word n p i false l }

pub number_holds : (n x : ℕ) (p : ℕ → Bool) → x ≡ number_by n p → Holds n x p
number_holds n x p e = record { bits = λ i l. ap (λ y. digit y i) e ∙ digit-number (word n p) i ∙ bit-word n p i false l }

pub holds_number : (n x : ℕ) (p : ℕ → Bool) → x < 2 ^ n → Holds n x p → x ≡ number_by n p
holds_number n x p l h = sym (mod-eq_of_lt l) ∙ sym (number-word_of n x) ∙ ap number (holds_word n x p h)

-- ---- bit by bit

pub holds_and : {n x y : ℕ} {p q : ℕ → Bool} → Holds n x p → Holds n y q → Holds n (bit_and x y) (λ i. p i && q i)
holds_and {x = x} {y = y} {p = p} {q = q} h k = record { bits = λ i l. digit-and x y i ∙ ap (λ b. b && digit y i) (h.bits i l) ∙ ap (λ b. p i && b) (k.bits i l) }

pub holds_or : {n x y : ℕ} {p q : ℕ → Bool} → Holds n x p → Holds n y q → Holds n (bit_or x y) (λ i. p i || q i)
holds_or {x = x} {y = y} {p = p} {q = q} h k = record { bits = λ i l. digit-or x y i ∙ ap (λ b. b || digit y i) (h.bits i l) ∙ ap (λ b. p i || b) (k.bits i l) }

pub holds_xor : {n x y : ℕ} {p q : ℕ → Bool} → Holds n x p → Holds n y q → Holds n (bit_xor x y) (λ i. xor (p i) (q i))
holds_xor {x = x} {y = y} {p = p} {q = q} h k = record { bits = λ i l. digit-xor x y i ∙ ap (λ b. xor b (digit y i)) (h.bits i l) ∙ ap (λ b. xor (p i) b) (k.bits i l) }

-- a complement, as the base gives it
pub holds_not : {n x y : ℕ} {p : ℕ → Bool} → word_of n y ≡ not_word n false (word_of n x) → Holds n x p → Holds n y (λ i. not (p i))
holds_not {n = n} {x = x} {y = y} {p = p} e h = record { bits = λ i l. (let k : Holds n y (λ j. not (bit (word_of n x) j)) = word_holds n y (λ j. not (bit (word_of n x) j)) e in k.bits i l) ∙ ap not (bit-word n (digit x) i false l ∙ h.bits i l) }

pub holds_same : {n x : ℕ} {p q : ℕ → Bool} → Holds n x p → ((i : ℕ) → i < n → p i ≡ q i) → Holds n x q
holds_same h k = record { bits = λ i l. h.bits i l ∙ k i l }

pub ones_digit : (k i : ℕ) → (i < k) ⊎ (k ≤ i) → digit (2 ^ k - 1) i ≡ nat_lt i k
ones_digit k i (inl h) = (let e : bit_at (2 ^ k - 1) i ≡ 1 = bit_at_ones k i h in let t : nat_lt i k ≡ true = grind (arith, nat_tests) in ap (λ x. x == 1) e ∙ sym t)
ones_digit k i (inr h) = (let e : bit_at (2 ^ k - 1) i ≡ 0 = bit_at_ones_above k i h in let t : nat_lt i k ≡ false = grind (arith, nat_tests) in ap (λ x. x == 1) e ∙ sym t)

-- the ones below place k
pub holds_below : (n k m : ℕ) → m ≡ 2 ^ k - 1 → Holds n m (λ i. nat_lt i k)
holds_below n k m e = record { bits = λ i l. ap (λ y. digit y i) e ∙ ones_digit k i (le_or_lt i k) }

pub and_fits : (n x y : ℕ) → y < 2 ^ n → bit_and x y < 2 ^ n
and_fits n x y h = let least : bit_and x y ≤ y = and_le_r x y in omega arith

pub power_grows : (k n : ℕ) → k ≤ n → 2 ^ k ≤ 2 ^ n
power_grows k n h = pow-le-pow_right {n = 2} (omega arith) h
