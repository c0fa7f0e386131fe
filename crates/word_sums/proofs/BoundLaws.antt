-- The bounds of a number with taint, bit by bit.
use Rattle.std.specs.Prelude.{ℕ, ◌-◌, ◌^◌, ◌<◌, ◌≡◌, Bool, true, false, not, ◌&&◌, ◌||◌, nat_lt, bit_and, bit_or, if◌then◌else◌, refl}
use Rattle.std.proofs.Common.{ap, ◌∙◌}
use Rattle.std.proofs.lemmas.Nat.{or_lt}
use Rattle.cif_defs.specs.Words.{digit, word_of}
use Rattle.cif_defs.specs.Meanings.{not_word}
use Rattle.rule_arith.specs.Bounds.{is_upper}
use Rattle.rule_arith.proofs.Limits.{at_bound}
use Rattle.word_sums.specs.declared.bounds.Bounds.{Bounds}
use Rattle.word_sums.specs.BoundNumbers.{bits_below, bounds_of, side_of}
use Rattle.word_sums.proofs.HeldNumbers.{Holds, and_fits, holds_and, holds_below, holds_not, holds_number, holds_or, holds_same, number_holds, own_bits}

-- ---- below a place

pub below_is : (n k x m : ℕ) → m ≡ 2 ^ k - 1 → m < 2 ^ n → bit_and x m ≡ bits_below n k x
below_is n k x m e h = holds_number n (bit_and x m) _ (and_fits n x m h) (holds_same (holds_and (own_bits n x) (holds_below n k m e)) (λ i l. swap (digit x i) (nat_lt i k)))
  where
    swap : (a b : Bool) → (a && b) ≡ (b && a)
    swap true true = refl
    swap true false = refl
    swap false true = refl
    swap false false = refl

-- ---- both bounds

abbrev IsSame : Bounds → Bounds → Type 0
IsSame a b = a ≡ b

pub same_bounds : (l g m h : ℕ) → l ≡ m → g ≡ h → IsSame (record { least = l; greatest = g }) (record { least = m; greatest = h })
same_bounds l g m h e f = ap (λ x. record { least = x; greatest = g }) e ∙ ap (λ y. record { least = m; greatest = y }) f

pub least_is : (n x t u : ℕ) → u < 2 ^ n → word_of n u ≡ not_word n false (word_of n t) → bit_and x u ≡ (bounds_of n x t).least
least_is n x t u h e = holds_number n (bit_and x u) _ (and_fits n x u h) (holds_and (own_bits n x) (holds_not e (own_bits n t)))

pub greatest_is : (n x t : ℕ) → x < 2 ^ n → t < 2 ^ n → bit_or x t ≡ (bounds_of n x t).greatest
greatest_is n x t h k = holds_number n (bit_or x t) _ (or_lt n x t h k) (holds_or (own_bits n x) (own_bits n t))

-- ---- sides

abbrev bound_of : Bool → Bounds → ℕ
bound_of upper b = if upper then b.greatest else b.least

chosen_bit : (upper : Bool) (b : Bounds) (i : ℕ) → digit (bound_of upper b) i ≡ (if upper then digit b.greatest i else digit b.least i)
chosen_bit true b i = refl
chosen_bit false b i = refl

only_first : (x y : Bool) → ((x && true) || (y && false)) ≡ x
only_first true y = refl
only_first false true = refl
only_first false false = refl

only_second : (x y : Bool) → ((x && false) || (y && true)) ≡ y
only_second true true = refl
only_second true false = refl
only_second false true = refl
only_second false false = refl

side_bit : (below low high g l : Bool) → (((if low then g else l) && below) || ((if high then g else l) && not below)) ≡ (if (if below then low else high) then g else l)
side_bit true low high g l = only_first (if low then g else l) (if high then g else l)
side_bit false low high g l = only_second (if low then g else l) (if high then g else l)

pub side_is : (n k : ℕ) (low high : Bool) (b : Bounds) (x y m u : ℕ) → x ≡ bound_of low b → y ≡ bound_of high b → m ≡ 2 ^ k - 1 → m < 2 ^ n → u < 2 ^ n → word_of n u ≡ not_word n false (word_of n m)
    → bit_or (bit_and x m) (bit_and y u) ≡ side_of n k low high b
side_is n k low high b x y m u e f g h j w =
    let under : Holds n m (λ i. nat_lt i k) = holds_below n k m g in
    holds_number n (bit_or (bit_and x m) (bit_and y u)) _ (or_lt n _ _ (and_fits n x m h) (and_fits n y u j))
    (holds_same (holds_or (holds_and (own_bits n x) under) (holds_and (own_bits n y) (holds_not w under)))
    (λ i l. ap (λ z. (digit z i && nat_lt i k) || (digit y i && not (nat_lt i k))) e ∙ ap (λ z. (digit (bound_of low b) i && nat_lt i k) || (digit z i && not (nat_lt i k))) f
    ∙ ap (λ z. (z && nat_lt i k) || (digit (bound_of high b) i && not (nat_lt i k))) (chosen_bit low b i)
    ∙ ap (λ z. ((if low then digit b.greatest i else digit b.least i) && nat_lt i k) || (z && not (nat_lt i k))) (chosen_bit high b i)
    ∙ side_bit (nat_lt i k) low high (digit b.greatest i) (digit b.least i)))

pub side_fits : (n x y m u : ℕ) → m < 2 ^ n → u < 2 ^ n → bit_or (bit_and x m) (bit_and y u) < 2 ^ n
side_fits n x y m u h j = or_lt n _ _ (and_fits n x m h) (and_fits n y u j)

-- ---- what sides hold

pub side_holds : {n x t : ℕ} {p q : ℕ → Bool} (k : ℕ) (low high : Bool) → Holds n x p → Holds n t q → Holds n (side_of n k low high (bounds_of n x t)) (λ i. at_bound (is_upper k low high i) (p i) (q i))
side_holds {n = n} {x = x} {t = t} {p = p} {q = q} k low high h g =
    holds_same (number_holds n (side_of n k low high (bounds_of n x t)) _ refl)
    (λ i l. ap (λ b. if is_upper k low high i then b else digit (bounds_of n x t).least i) (greater.bits i l) ∙ ap (λ b. if is_upper k low high i then p i || q i else b) (lesser.bits i l))
  where
    greater : Holds n (bounds_of n x t).greatest (λ i. p i || q i)
    greater = holds_same (number_holds n (bounds_of n x t).greatest _ refl) (λ i l. ap (λ b. b || digit t i) (h.bits i l) ∙ ap (λ b. p i || b) (g.bits i l))

    lesser : Holds n (bounds_of n x t).least (λ i. p i && not (q i))
    lesser = holds_same (number_holds n (bounds_of n x t).least _ refl) (λ i l. ap (λ b. b && not (digit t i)) (h.bits i l) ∙ ap (λ b. p i && not b) (g.bits i l))

pub below_holds : {n x : ℕ} {p : ℕ → Bool} (k : ℕ) → Holds n x p → Holds n (bits_below n k x) (λ i. nat_lt i k && p i)
below_holds {n = n} {x = x} k h = holds_same (number_holds n (bits_below n k x) _ refl) (λ i l. ap (λ b. nat_lt i k && b) (h.bits i l))
