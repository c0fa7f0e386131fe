-- The digits of bitwise operations and of sums, and the carries of a sum by its digits.
use Rattle.std.specs.Prelude.{ℕ, zero, suc, ◌+◌, ◌-◌, ◌*◌, ◌/◌, ◌%◌, ◌^◌, ◌<◌, ◌≤◌, ◌≡◌, ◌==◌, nat_le, min, max, Bool, true, false, not, ◌&&◌, ◌||◌, bit_and, bit_or, bit_xor, refl}
use Rattle.std.specs.Int.{bit_at, w128}
use Rattle.std.proofs.Common.{add-one, arith, sym, ap, ◌∙◌}
use Rattle.std.proofs.lemmas.Bool.Decides.{nat_tests}
use Rattle.std.proofs.lemmas.Nat.{and_le_l, div_below, mod-pow-add, or_lt, pow_pos}
use Rattle.std.proofs.lemmas.Nat.Bits.{bit_at-lt, bit_at_and, bit_at_not, bit_at_or, bit_at_xor}
use Rattle.std.proofs.Math.Nat.{add-mul-div_left, div-add-mod, div-mul-le_self, lt-div-mul-add, pow-succ', mod-eq_of_lt, mod-lt}
use Rattle.cif_defs.specs.Words.{bit_value, digit, number, word, word_of, xor}
use Rattle.cif_defs.proofs.Numbers.{digit_mod, word-same}
use Rattle.cif_defs.proofs.WordNumbers.{number-word_of}
use Rattle.cif_arith.specs.NumbersOfBits.{carries, carry_out}

-- ---- digits of bitwise operations

both_ones : (x y : ℕ) → x < 2 → y < 2 → (min x y == 1) ≡ (x == 1 && y == 1)
both_ones x y h k = grind (arith, nat_tests)

some_one : (x y : ℕ) → x < 2 → y < 2 → (max x y == 1) ≡ (x == 1 || y == 1)
some_one x y h k = grind (arith, nat_tests)

one_one : (x y : ℕ) → x < 2 → y < 2 → ((x + y) % 2 == 1) ≡ xor (x == 1) (y == 1)
one_one zero zero h k = refl
one_one zero (suc zero) h k = refl
one_one zero (suc (suc y)) h k = absurd (omega arith)
one_one (suc zero) zero h k = refl
one_one (suc zero) (suc zero) h k = refl
one_one (suc zero) (suc (suc y)) h k = absurd (omega arith)
one_one (suc (suc x)) y h k = absurd (omega arith)

no_one : (x : ℕ) → x < 2 → (1 - x == 1) ≡ not (x == 1)
no_one x h = grind (arith, nat_tests)

pub digit-and : (a b i : ℕ) → digit (bit_and a b) i ≡ (digit a i && digit b i)
digit-and a b i = ap (λ k. k == 1) (bit_at_and a b i) ∙ both_ones (bit_at a i) (bit_at b i) (bit_at-lt a i) (bit_at-lt b i)

pub digit-or : (a b i : ℕ) → digit (bit_or a b) i ≡ (digit a i || digit b i)
digit-or a b i = ap (λ k. k == 1) (bit_at_or a b i) ∙ some_one (bit_at a i) (bit_at b i) (bit_at-lt a i) (bit_at-lt b i)

pub digit-xor : (a b i : ℕ) → digit (bit_xor a b) i ≡ xor (digit a i) (digit b i)
digit-xor a b i = ap (λ k. k == 1) (bit_at_xor a b i) ∙ one_one (bit_at a i) (bit_at b i) (bit_at-lt a i) (bit_at-lt b i)

-- the complement of 128 bits
digit-not : (a i : ℕ) → a < 2 ^ 128 → i < 128 → digit (2 ^ 128 - 1 - a) i ≡ not (digit a i)
digit-not a i h k = ap (λ k. k == 1) (bit_at_not w128 a i h k) ∙ no_one (bit_at a i) (bit_at-lt a i)

-- ---- a carry, from the digits of the operands and of the sum

-- x and y are the digits at a place of the value p, low what stands below them with the carry in, and t what it carries
carry_cases : (p low x y t : ℕ) → t * p ≤ low → low < t * p + p → x < 2 → y < 2 → t < 2
    → nat_le (2 * p) (x * p + y * p + low) ≡ (((x == 1) && (y == 1)) || (((x == 1) || (y == 1)) && not ((x + y + t) % 2 == 1)))
carry_cases p low zero zero zero f g h k l = grind (arith, nat_tests)
carry_cases p low zero zero (suc zero) f g h k l = grind (arith, nat_tests)
carry_cases p low zero (suc zero) zero f g h k l = grind (arith, nat_tests)
carry_cases p low zero (suc zero) (suc zero) f g h k l = grind (arith, nat_tests)
carry_cases p low (suc zero) zero zero f g h k l = grind (arith, nat_tests)
carry_cases p low (suc zero) zero (suc zero) f g h k l = grind (arith, nat_tests)
carry_cases p low (suc zero) (suc zero) zero f g h k l = grind (arith, nat_tests)
carry_cases p low (suc zero) (suc zero) (suc zero) f g h k l = grind (arith, nat_tests)
carry_cases p low (suc (suc x)) y t f g h k l = absurd (omega arith)
carry_cases p low zero (suc (suc y)) t f g h k l = absurd (omega arith)
carry_cases p low (suc zero) (suc (suc y)) t f g h k l = absurd (omega arith)
carry_cases p low zero zero (suc (suc t)) f g h k l = absurd (omega arith)
carry_cases p low zero (suc zero) (suc (suc t)) f g h k l = absurd (omega arith)
carry_cases p low (suc zero) zero (suc (suc t)) f g h k l = absurd (omega arith)
carry_cases p low (suc zero) (suc zero) (suc (suc t)) f g h k l = absurd (omega arith)

value_small : (b : Bool) → bit_value b ≤ 1
value_small true = omega arith
value_small false = omega arith

-- a sum is cut where its operands are
quotient-sum : (a b k p : ℕ) → 0 < p → (a + b + k) / p ≡ (a % p + b % p + k) / p + (a / p + b / p)
quotient-sum a b k p h =
    let of_a : p * (a / p) + a % p ≡ a = div-add-mod a p in
    let of_b : p * (b / p) + b % p ≡ b = div-add-mod b p in
    let parts : a + b + k ≡ (a % p + b % p + k) + p * (a / p + b / p) = omega arith in
    ap (λ x. x / p) parts ∙ add-mul-div_left (a % p + b % p + k) (a / p + b / p) h

low_bits : (x i : ℕ) → x % 2 ^ (i + 1) ≡ (x / 2 ^ i % 2) * 2 ^ i + x % 2 ^ i
low_bits x i = ap (λ k. x % 2 ^ k) (omega arith) ∙ mod-pow-add x 1 i

pub carry_out-digits : (a b : ℕ) (carry_in : Bool) (i : ℕ)
    → carry_out a b carry_in i ≡ ((digit a i && digit b i) || ((digit a i || digit b i) && not (digit (a + b + bit_value carry_in) i)))
carry_out-digits a b carry_in i =
    let some : 0 < 2 ^ i = pow_pos i in
    let one : bit_value carry_in ≤ 1 = value_small carry_in in
    let a_low : a % 2 ^ i < 2 ^ i = mod-lt a some in
    let b_low : b % 2 ^ i < 2 ^ i = mod-lt b some in
    let carried : (a % 2 ^ i + b % 2 ^ i + bit_value carry_in) / 2 ^ i < 2 = div_below (a % 2 ^ i + b % 2 ^ i + bit_value carry_in) (2 ^ i) 2 some (omega arith) in
    let power : 2 ^ (i + 1) ≡ 2 * 2 ^ i = ap (λ k. 2 ^ k) (add-one i) ∙ pow-succ' 2 i in
    let sums : a % 2 ^ (i + 1) + b % 2 ^ (i + 1) + bit_value carry_in ≡ (a / 2 ^ i % 2) * 2 ^ i + (b / 2 ^ i % 2) * 2 ^ i + (a % 2 ^ i + b % 2 ^ i + bit_value carry_in) =
    omega (arith, low_bits a i, low_bits b i) in
    let cut = quotient-sum a b (bit_value carry_in) (2 ^ i) some in
    let last : (a / 2 ^ i % 2 + b / 2 ^ i % 2 + (a % 2 ^ i + b % 2 ^ i + bit_value carry_in) / 2 ^ i) % 2 ≡ (a + b + bit_value carry_in) / 2 ^ i % 2 = omega arith in
    ap (λ k. nat_le k (a % 2 ^ (i + 1) + b % 2 ^ (i + 1) + bit_value carry_in)) power ∙ ap (nat_le (2 * 2 ^ i)) sums
    ∙ carry_cases (2 ^ i) (a % 2 ^ i + b % 2 ^ i + bit_value carry_in) (a / 2 ^ i % 2) (b / 2 ^ i % 2) ((a % 2 ^ i + b % 2 ^ i + bit_value carry_in) / 2 ^ i)
    (div-mul-le_self (a % 2 ^ i + b % 2 ^ i + bit_value carry_in) (2 ^ i)) (lt-div-mul-add some) (mod-lt (a / 2 ^ i) (omega arith)) (mod-lt (b / 2 ^ i) (omega arith)) carried
    ∙ ap (λ k. (digit a i && digit b i) || ((digit a i || digit b i) && not (k == 1))) last

-- a digit of the carries, from a sum y of n bits
carry-bitwise : (n a b y : ℕ) (carry_in : Bool) → n ≤ 128 → y < 2 ^ 128 → y ≡ (a + b + bit_value carry_in) % 2 ^ n
    → (i : ℕ) → i < n → digit (bit_or (bit_and a b) (bit_and (bit_or a b) (2 ^ 128 - 1 - y))) i ≡ carry_out a b carry_in i
carry-bitwise n a b y carry_in h fits e i l =
    let sum : digit y i ≡ digit (a + b + bit_value carry_in) i = ap (λ k. digit k i) e ∙ digit_mod (a + b + bit_value carry_in) n i l in
    let all : digit (bit_and a b) i ≡ (digit a i && digit b i) = digit-and a b i in
    let some : digit (bit_or a b) i ≡ (digit a i || digit b i) = digit-or a b i in
    let none : digit (2 ^ 128 - 1 - y) i ≡ not (digit (a + b + bit_value carry_in) i) = digit-not y i fits (omega arith) ∙ ap not sum in
    digit-or (bit_and a b) (bit_and (bit_or a b) (2 ^ 128 - 1 - y)) i
    ∙ ap (λ t. digit (bit_and a b) i || t) (digit-and (bit_or a b) (2 ^ 128 - 1 - y) i)
    ∙ ap (λ t. t || (digit (bit_or a b) i && digit (2 ^ 128 - 1 - y) i)) all
    ∙ ap (λ t. (digit a i && digit b i) || (t && digit (2 ^ 128 - 1 - y) i)) some
    ∙ ap (λ t. (digit a i && digit b i) || ((digit a i || digit b i) && t)) none
    ∙ sym (carry_out-digits a b carry_in i)

-- the carries of a sum y of n bits, all places at once
pub carries-bitwise : (n a b y : ℕ) (carry_in : Bool) → n ≤ 128 → a < 2 ^ n → b < 2 ^ n → y < 2 ^ 128 → y ≡ (a + b + bit_value carry_in) % 2 ^ n
    → bit_or (bit_and a b) (bit_and (bit_or a b) (2 ^ 128 - 1 - y)) ≡ carries n a b carry_in
carries-bitwise n a b y carry_in h a_fits b_fits y_fits e =
    let some : ℕ = bit_and (bit_or a b) (2 ^ 128 - 1 - y) in
    let both_fit : bit_and a b < 2 ^ n = (let least : bit_and a b ≤ a = and_le_l a b in omega arith) in
    let either_fits : bit_or a b < 2 ^ n = or_lt n a b a_fits b_fits in
    let some_fits : bit_and (bit_or a b) (2 ^ 128 - 1 - y) < 2 ^ n = (let least : bit_and (bit_or a b) (2 ^ 128 - 1 - y) ≤ bit_or a b = and_le_l (bit_or a b) (2 ^ 128 - 1 - y) in omega arith) in
    let fits : bit_or (bit_and a b) some < 2 ^ n = or_lt n (bit_and a b) some both_fit some_fits in
    let same : word_of n (bit_or (bit_and a b) some) ≡ word n (λ i. carry_out a b carry_in i) = word-same n _ _ (carry-bitwise n a b y carry_in h y_fits e) in
    sym (mod-eq_of_lt fits) ∙ sym (number-word_of n (bit_or (bit_and a b) some)) ∙ ap number same
