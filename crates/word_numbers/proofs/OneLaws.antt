-- The lowest and the highest 1 of a word, from its number.
use Rattle.std.specs.Prelude.{ℕ, suc, ◌+◌, ◌-◌, ◌*◌, ◌/◌, ◌%◌, ◌^◌, ◌<◌, ◌≤◌, ◌≡◌, ◌≢◌, ◌⊎◌, ◌==◌, Bool, true, false, not, ◌&&◌, length, take, drop, refl}
use Rattle.std.specs.Int.{bit_at, trailing_zeros, w128}
use Rattle.std.specs.Int.Count.{count_leading_zeros, count_trailing_zeros}
use Rattle.std.proofs.Common.{arith, sym, ap, ◌∙◌, inl, inr}
use Rattle.std.proofs.lemmas.Bool.Decides.{eqb_tells, nat_tests}
use Rattle.std.proofs.lemmas.List.{get_or-drop, get_or-take, length-drop, length-take-le}
use Rattle.std.proofs.lemmas.List.FromFn.{fill_by_all}
use Rattle.std.proofs.lemmas.Nat.{div_below, leading_top, one_shl, pow-add, pow_pos}
use Rattle.std.proofs.lemmas.Nat.Bits.{bit_at-pow_other, bit_at-pow_same, bit_at-trailing_zeros}
use Rattle.std.proofs.Math.Nat.{div-eq_of_lt, le-div_iff_mul-le, mod-lt, pow-succ', zero-div}
use Rattle.std.proofs.Math.Pow.{pow_mono}
use Rattle.cif_arith.proofs.Residues.{mask-shr}
use Rattle.cif_defs.specs.Words.{bit, digit, has_one, number, word, word_of}
use Rattle.cif_defs.proofs.Numbers.{digit_mod, number_zero}
use Rattle.cif_defs.proofs.WordLaws.{le_or_lt, length-word, past_word}
use Rattle.cif_defs.proofs.WordNumbers.{number-word_of, word_of-mod}
use Rattle.word_numbers.specs.HeldWords.{filled_word, highest_one_word, lowest_one_word}
use Rattle.word_numbers.proofs.Digits.{bit-held, bit-held_by, digit-ones, digit-shr, digit_above, word_of-digits}
use Rattle.word_numbers.proofs.FlagLaws.{has_one-held}

-- ---- parts of a word

long : (n x : ℕ) → length (word_of n x) ≡ n
long n x = length-word n (λ i. digit x i)

of_length : (n x : ℕ) (f : ℕ → Bool) → word n f ≡ word (length (word_of n x)) f
of_length n x f = ap (λ m. word m f) (sym (long n x))

dropped : (n x i : ℕ) → drop i (word_of n x) ≡ word_of (n - i) (x / 2 ^ i)
dropped n x i = fill_by_all (λ j. digit (x / 2 ^ i) j) (drop i (word_of n x)) (n - i) false (length-drop i (word_of n x) ∙ ap (λ k. k - i) (long n x))
    (λ j h. get_or-drop i (word_of n x) j false ∙ bit-held_by n x (i + j) false (omega arith) ∙ sym (digit-shr x i j))

taken : (n x i : ℕ) → i ≤ n → take i (word_of n x) ≡ word_of i x
taken n x i l = fill_by_all (λ j. digit x j) (take i (word_of n x)) i false (length-take-le i (word_of n x) (omega (arith, long n x)))
    (λ j h. get_or-take i (word_of n x) j false h ∙ bit-held_by n x j false (omega arith))

quotient_below : (n x i : ℕ) → x < 2 ^ n → (i < n) ⊎ (n ≤ i) → x / 2 ^ i < 2 ^ (n - i)
quotient_below n x i h (inl l) =
    let whole : n ≡ (n - i) + i = omega arith in
    let power : 2 ^ n ≡ 2 ^ (n - i) * 2 ^ i = ap (λ k. 2 ^ k) whole ∙ pow-add 2 (n - i) i in
    div_below x (2 ^ i) (2 ^ (n - i)) (pow_pos i) (omega arith)
quotient_below n x i h (inr l) =
    let less : 2 ^ n ≤ 2 ^ i = pow_mono {i = n} {j = i} l in
    let none : x / 2 ^ i ≡ 0 = div-eq_of_lt (omega arith) in
    omega (arith, pow_pos (n - i))

one_from : (n x i : ℕ) → x < 2 ^ n → has_one (drop i (word_of n x)) ≡ not (x / 2 ^ i == 0)
one_from n x i h = ap has_one (dropped n x i) ∙ sym (has_one-held (n - i) (x / 2 ^ i) (quotient_below n x i h (le_or_lt i n)))

one_below : (n x i : ℕ) → i ≤ n → has_one (take i (word_of n x)) ≡ not (x % 2 ^ i == 0)
one_below n x i l = ap has_one (taken n x i l ∙ sym (word_of-mod i i x (omega arith))) ∙ sym (has_one-held i (x % 2 ^ i) (mod-lt x (pow_pos i)))

-- ---- from the highest 1, at place j

some_above : (x j i : ℕ) → 2 ^ j ≤ x → i ≤ j → (x / 2 ^ i == 0) ≡ false
some_above x j i h l =
    let less : 2 ^ i ≤ 2 ^ j = pow_mono {i = i} {j = j} l in
    let one : 1 ≤ x / 2 ^ i = (le-div_iff_mul-le (pow_pos i)).1 (omega arith) in
    grind (arith, nat_tests)

none_above : (x j i : ℕ) → x < 2 ^ j → j ≤ i → (x / 2 ^ i == 0) ≡ true
none_above x j i h l =
    let less : 2 ^ j ≤ 2 ^ i = pow_mono {i = j} {j = i} l in
    let none : x / 2 ^ i ≡ 0 = div-eq_of_lt (omega arith) in
    grind (arith, nat_tests)

pow_digit_same : (j : ℕ) → digit (2 ^ j) j ≡ true
pow_digit_same j = ap (λ k. k == 1) (bit_at-pow_same j)

pow_digit_other : (j i : ℕ) → i ≢ j → digit (2 ^ j) i ≡ false
pow_digit_other j i h = ap (λ k. k == 1) (bit_at-pow_other j i h)

top_digit : (x j : ℕ) → 2 ^ j ≤ x → x < 2 ^ suc j → digit x j ≡ true
top_digit x j h l =
    let double : 2 ^ suc j ≡ 2 * 2 ^ j = pow-succ' 2 j in
    let one : 1 ≤ x / 2 ^ j = (le-div_iff_mul-le (pow_pos j)).1 (omega arith) in
    let small : x / 2 ^ j < 2 = div_below x (2 ^ j) 2 (pow_pos j) (omega arith) in
    let same : x / 2 ^ j ≡ 1 = omega arith in
    ap (λ k. k % 2 == 1) same

and_none : (b : Bool) → (b && false) ≡ false
and_none true = refl
and_none false = refl

highest_digit : (n x j i : ℕ) → x < 2 ^ n → 2 ^ j ≤ x → x < 2 ^ suc j → (i < j) ⊎ (j ≤ i) → (j < i) ⊎ (i ≤ j) → digit (2 ^ j) i ≡ (bit (word_of n x) i && not (has_one (drop (i + 1) (word_of n x))))
highest_digit n x j i f h l (inl below) q =
    let other : i ≢ j = omega arith in
    pow_digit_other j i other ∙ sym (ap (λ b. bit (word_of n x) i && not b) (one_from n x (i + 1) f ∙ ap not (some_above x j (i + 1) h (omega arith))) ∙ and_none (bit (word_of n x) i))
highest_digit n x j i f h l (inr p) (inl above) =
    let other : i ≢ j = omega arith in
    pow_digit_other j i other ∙ sym (ap (λ b. b && not (has_one (drop (i + 1) (word_of n x)))) (bit-held n x i f ∙ digit_above (suc j) x i l (omega arith)))
highest_digit n x j i f h l (inr p) (inr q) =
    let same : i ≡ j = omega arith in
    ap (digit (2 ^ j)) same ∙ pow_digit_same j
    ∙ sym (ap (λ b. b && not (has_one (drop (i + 1) (word_of n x)))) (bit-held n x i f ∙ ap (digit x) same ∙ top_digit x j h l)
    ∙ ap not (one_from n x (i + 1) f ∙ ap not (none_above x (suc j) (i + 1) l (omega arith))))

pub highest-is : (n x r : ℕ) → 0 < x → x < 2 ^ 128 → x < 2 ^ n → r ≡ 1 * 2 ^ (127 - count_leading_zeros 128 x) % 2 ^ 128 → word_of n r ≡ highest_one_word (word_of n x)
highest-is n x r p f h e =
    let found = leading_top 128 x p f in
    let j : ℕ = found.0 in
    let whole : count_leading_zeros 128 x + suc j ≡ 128 = found.1 in
    let place : 127 - count_leading_zeros 128 x ≡ j = omega arith in
    let made : r ≡ 2 ^ j = e ∙ ap (λ k. 1 * 2 ^ k % 2 ^ 128) place ∙ one_shl j 128 (omega arith) in
    ap (word_of n) made ∙ word_of-digits n (2 ^ j) _ (λ i l. highest_digit n x j i h found.2 found.3 (le_or_lt i j) (le_or_lt j i)) ∙ of_length n x _

filled_digit : (n x j i : ℕ) → x < 2 ^ n → 2 ^ j ≤ x → x < 2 ^ suc j → (j < i) ⊎ (i ≤ j) → digit (2 ^ suc j - 1) i ≡ has_one (drop i (word_of n x))
filled_digit n x j i f h l (inl above) =
    let below : 2 ^ suc j - 1 < 2 ^ suc j = omega (arith, pow_pos (suc j)) in
    digit_above (suc j) (2 ^ suc j - 1) i below (omega arith) ∙ sym (one_from n x i f ∙ ap not (none_above x (suc j) i l (omega arith)))
filled_digit n x j i f h l (inr q) = digit-ones (suc j) i (omega arith) ∙ sym (one_from n x i f ∙ ap not (some_above x j i h q))

pub filled-is : (n x r : ℕ) → 0 < x → x < 2 ^ 128 → x < 2 ^ n → r ≡ (2 ^ 128 - 1) / 2 ^ count_leading_zeros 128 x → word_of n r ≡ filled_word (word_of n x)
filled-is n x r p f h e =
    let found = leading_top 128 x p f in
    let j : ℕ = found.0 in
    let whole : count_leading_zeros 128 x + suc j ≡ 128 = found.1 in
    let place : count_leading_zeros 128 x ≡ 128 - suc j = omega arith in
    let made : r ≡ 2 ^ suc j - 1 = e ∙ ap (λ k. (2 ^ 128 - 1) / 2 ^ k) place ∙ mask-shr 128 (suc j) (omega arith) in
    ap (word_of n) made ∙ word_of-digits n (2 ^ suc j - 1) _ (λ i l. filled_digit n x j i h found.2 found.3 (le_or_lt j i)) ∙ of_length n x _

-- ---- from the lowest 1, at place t

no_digit : (d : ℕ) → d ≡ 0 → (d == 1) ≡ false
no_digit d e = ap (λ k. k == 1) e

none_below : (x t : ℕ) → ((i : ℕ) → i < t → bit_at x i ≡ 0) → (x % 2 ^ t == 0) ≡ true
none_below x t h =
    let zero_word : number (word_of t x) ≡ 0 = number_zero (word_of t x) (λ i. elim (le_or_lt i t) [
      | inl l ↦ bit-held_by t x i false l ∙ no_digit (bit_at x i) (h i l)
      | inr l ↦ past_word t (λ k. digit x k) i false l
    ]) in
    let none : x % 2 ^ t ≡ 0 = sym (number-word_of t x) ∙ zero_word in
    grind (arith, nat_tests)

some_below : (x t i : ℕ) → digit x t ≡ true → t < i → (x % 2 ^ i == 0) ≡ false
some_below x t i h l = elim (eqb_tells (x % 2 ^ i) 0) [
  | inl e ↦ absurd (let none : false ≡ true = sym (ap (λ k. k % 2 == 1) (zero-div (2 ^ t))) ∙ sym (ap (λ k. digit k t) e.1) ∙ digit_mod x i t l ∙ h in cc)
  | inr e ↦ e.0
]

lowest_digit : (n x t i : ℕ) → i < n → x < 2 ^ n → digit x t ≡ true → ((k : ℕ) → k < t → bit_at x k ≡ 0) → (i < t) ⊎ (t ≤ i) → (t < i) ⊎ (i ≤ t) → digit (2 ^ t) i ≡ (bit (word_of n x) i && not (has_one (take i (word_of n x))))
lowest_digit n x t i l f h none (inl below) q =
    let other : i ≢ t = omega arith in
    pow_digit_other t i other ∙ sym (ap (λ b. b && not (has_one (take i (word_of n x)))) (bit-held n x i f ∙ no_digit (bit_at x i) (none i below)))
lowest_digit n x t i l f h none (inr p) (inl above) =
    let other : i ≢ t = omega arith in
    pow_digit_other t i other ∙ sym (ap (λ b. bit (word_of n x) i && not b) (one_below n x i (omega arith) ∙ ap not (some_below x t i h above)) ∙ and_none (bit (word_of n x) i))
lowest_digit n x t i l f h none (inr p) (inr q) =
    let same : i ≡ t = omega arith in
    ap (digit (2 ^ t)) same ∙ pow_digit_same t
    ∙ sym (ap (λ b. b && not (has_one (take i (word_of n x)))) (bit-held n x i f ∙ ap (digit x) same ∙ h)
    ∙ ap not (one_below n x i (omega arith) ∙ ap (λ k. not (x % 2 ^ k == 0)) same ∙ ap not (none_below x t none)))

pub lowest-is : (n x r : ℕ) → 0 < x → x < 2 ^ 128 → x < 2 ^ n → r ≡ 1 * 2 ^ count_trailing_zeros 128 x % 2 ^ 128 → word_of n r ≡ lowest_one_word (word_of n x)
lowest-is n x r p f h e =
    let found = bit_at-trailing_zeros w128 x p f in
    let t : ℕ = trailing_zeros w128 x in
    let made : r ≡ 2 ^ trailing_zeros w128 x = e ∙ one_shl (trailing_zeros w128 x) 128 found.0 in
    ap (word_of n) made ∙ word_of-digits n (2 ^ trailing_zeros w128 x) _ (λ i l. lowest_digit n x (trailing_zeros w128 x) i l h (ap (λ k. k == 1) found.1) found.2 (le_or_lt i (trailing_zeros w128 x)) (le_or_lt (trailing_zeros w128 x) i)) ∙ of_length n x _

-- ---- what was found fits wherever the number does

pub highest-fits : (n x r : ℕ) → 0 < x → x < 2 ^ 128 → x < 2 ^ n → r ≡ 1 * 2 ^ (127 - count_leading_zeros 128 x) % 2 ^ 128 → r < 2 ^ n
highest-fits n x r p f h e =
    let found = leading_top 128 x p f in
    let whole : count_leading_zeros 128 x + suc found.0 ≡ 128 = found.1 in
    let place : 127 - count_leading_zeros 128 x ≡ found.0 = omega arith in
    let made : r ≡ 2 ^ found.0 = e ∙ ap (λ k. 1 * 2 ^ k % 2 ^ 128) place ∙ one_shl found.0 128 (omega arith) in
    let least : 2 ^ found.0 ≤ x = found.2 in
    omega arith

ones_fit : (n x j : ℕ) → x < 2 ^ n → 2 ^ j ≤ x → (j < n) ⊎ (n ≤ j) → 2 ^ suc j ≤ 2 ^ n
ones_fit n x j h l (inl below) = pow_mono {i = suc j} {j = n} (omega arith)
ones_fit n x j h l (inr above) = absurd (let more : 2 ^ n ≤ 2 ^ j = pow_mono {i = n} {j = j} above in omega arith)

pub filled-fits : (n x r : ℕ) → 0 < x → x < 2 ^ 128 → x < 2 ^ n → r ≡ (2 ^ 128 - 1) / 2 ^ count_leading_zeros 128 x → r < 2 ^ n
filled-fits n x r p f h e =
    let found = leading_top 128 x p f in
    let whole : count_leading_zeros 128 x + suc found.0 ≡ 128 = found.1 in
    let place : count_leading_zeros 128 x ≡ 128 - suc found.0 = omega arith in
    let made : r ≡ 2 ^ suc found.0 - 1 = e ∙ ap (λ k. (2 ^ 128 - 1) / 2 ^ k) place ∙ mask-shr 128 (suc found.0) (omega arith) in
    let room : 2 ^ suc found.0 ≤ 2 ^ n = ones_fit n x found.0 h found.2 (le_or_lt found.0 n) in
    omega (arith, pow_pos (suc found.0))

power_fits : (x t : ℕ) → digit x t ≡ true → (x < 2 ^ t) ⊎ (2 ^ t ≤ x) → 2 ^ t ≤ x
power_fits x t e (inl below) = absurd (let none : digit x t ≡ false = digit_above t x t below (omega arith) in cc)
power_fits x t e (inr l) = l

pub lowest-fits : (n x r : ℕ) → 0 < x → x < 2 ^ 128 → x < 2 ^ n → r ≡ 1 * 2 ^ count_trailing_zeros 128 x % 2 ^ 128 → r < 2 ^ n
lowest-fits n x r p f h e =
    let found = bit_at-trailing_zeros w128 x p f in
    let made : r ≡ 2 ^ trailing_zeros w128 x = e ∙ one_shl (trailing_zeros w128 x) 128 found.0 in
    let least : 2 ^ trailing_zeros w128 x ≤ x = power_fits x (trailing_zeros w128 x) (ap (λ k. k == 1) found.1) (le_or_lt x (2 ^ trailing_zeros w128 x)) in
    omega arith

-- ---- where no bit is 1

digit_zero : (i : ℕ) → digit 0 i ≡ false
digit_zero i = ap (λ k. k % 2 == 1) (zero-div (2 ^ i))

no_bit : (n x i : ℕ) → x ≡ 0 → i < n → false ≡ bit (word_of n x) i
no_bit n x i e h = sym (bit-held_by n x i false h ∙ ap (λ y. digit y i) e ∙ digit_zero i)

pub no_lowest : (n x : ℕ) → x ≡ 0 → word_of n 0 ≡ lowest_one_word (word_of n x)
no_lowest n x e = word_of-digits n 0 (λ i. bit (word_of n x) i && not (has_one (take i (word_of n x)))) (λ i h. digit_zero i ∙ ap (λ b. b && not (has_one (take i (word_of n x)))) (no_bit n x i e h)) ∙ of_length n x _

pub no_highest : (n x : ℕ) → x ≡ 0 → word_of n 0 ≡ highest_one_word (word_of n x)
no_highest n x e = word_of-digits n 0 (λ i. bit (word_of n x) i && not (has_one (drop (i + 1) (word_of n x)))) (λ i h. digit_zero i ∙ ap (λ b. b && not (has_one (drop (i + 1) (word_of n x)))) (no_bit n x i e h)) ∙ of_length n x _

pub none_filled : (n x : ℕ) → x ≡ 0 → x < 2 ^ n → word_of n 0 ≡ filled_word (word_of n x)
none_filled n x e f = word_of-digits n 0 (λ i. has_one (drop i (word_of n x))) (λ i h. digit_zero i ∙ sym (one_from n x i f ∙ ap (λ y. not (y / 2 ^ i == 0)) e ∙ ap (λ k. not (k == 0)) (zero-div (2 ^ i)))) ∙ of_length n x _
