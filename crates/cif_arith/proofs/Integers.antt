-- Integers as a sign and a magnitude, and their divisions.
use Rattle.std.specs.Prelude.{ℕ, zero, suc, ◌+◌, ◌-◌, ◌*◌, ◌/◌, ◌%◌, ◌^◌, ◌<◌, ◌≡◌, ◌≢◌, ◌⊎◌, ◌==◌, Bool, true, false, not, ◌&&◌, ℤ, pos, negsuc, neg_ℤ, ◌-ℤ◌, ◌*ℤ◌, if◌then◌else◌, refl}
use Rattle.std.specs.Int.{div_ceil, int_div_euclid}
use Rattle.std.proofs.Common.{arith, ltb, sym, ap, ◌∙◌, inl, inr}
use Rattle.std.proofs.Math.Bool.{beq}
use Rattle.std.proofs.Math.IntN.{*ℤ-zero, zero-*ℤ}
use Rattle.std.proofs.Math.Nat.{div-add-mod, mod-eq_of_lt, mod-lt, zero-div, zero-mod}
use Rattle.std.proofs.lemmas.Bool.Decides.{nat_tests}
use Rattle.std.proofs.lemmas.Int.{ints}
use Rattle.std.proofs.lemmas.Nat.{div-mul-add, mod-mul-add}
use Rattle.cif_defs.specs.Meanings.{floor_div, floor_rem}
use Rattle.cif_defs.specs.Words.{digit}
use Rattle.cif_defs.proofs.WordLaws.{le_or_lt}
use Rattle.cif_arith.specs.NumbersOfBits.{integer_of, residue}

-- the magnitude, with a minus sign where it is negative
abbrev pub with_sign : Bool → ℕ → ℤ
with_sign negative magnitude = if negative then neg_ℤ (pos magnitude) else pos magnitude

-- ---- the integer that a number stands for

and_false : (b : Bool) → (b && false) ≡ false
and_false true = refl
and_false false = refl

pub negative-integer : (n x r : ℕ) (signed : Bool) → x < 2 ^ n → (signed && digit x (n - 1)) ≡ true → r ≡ residue n (neg_ℤ (pos x)) → neg_ℤ (pos r) ≡ integer_of n signed x
negative-integer n zero r signed h t e =
    let none : digit 0 (n - 1) ≡ false = ap (λ k. k % 2 == 1) (zero-div (2 ^ (n - 1))) in
    let no_sign : true ≡ false = sym t ∙ ap (λ b. signed && b) none ∙ and_false signed in
    absurd (cc)
negative-integer n (suc a) r signed h t e =
    let whole : a % 2 ^ n ≡ a = mod-eq_of_lt (omega arith) in
    let short : r ≡ 2 ^ n - 1 - a = e ∙ ap (λ k. 2 ^ n - 1 - k) whole in
    let same : neg_ℤ (pos r) ≡ pos (suc a) -ℤ pos (2 ^ n) = omega (arith, ints) in
    same ∙ sym (ap (λ b. pos (suc a) -ℤ pos (if b then 2 ^ n else 0)) t)

-- ---- quotients

div_ceil-zero : (d : ℕ) → div_ceil 0 d ≡ 0
div_ceil-zero d = let whole : 0 / d ≡ 0 = zero-div d in let rest : 0 % d ≡ 0 = zero-mod d in omega arith

div_ceil-suc : (a d : ℕ) → 0 < d → div_ceil (suc a) d ≡ suc (a / d)
div_ceil-suc a d h =
    let parts : d * (a / d) + a % d ≡ a = div-add-mod a d in
    let low : a % d < d = mod-lt a h in
    elim (le_or_lt (suc (a % d)) d) [
      | inl l ↦ (let next : suc a ≡ a / d * d + suc (a % d) = omega arith in
          let whole : suc a / d ≡ a / d = ap (λ k. k / d) next ∙ div-mul-add (a / d) d (suc (a % d)) l in
          let rest : suc a % d ≡ suc (a % d) = ap (λ k. k % d) next ∙ mod-mul-add (a / d) d (suc (a % d)) l in
          omega arith)
      | inr l ↦ (let next : suc a ≡ suc (a / d) * d + 0 = omega arith in
          let whole : suc a / d ≡ suc (a / d) = ap (λ k. k / d) next ∙ div-mul-add (suc (a / d)) d 0 h in
          let rest : suc a % d ≡ 0 = ap (λ k. k % d) next ∙ mod-mul-add (suc (a / d)) d 0 h in
          omega arith)
    ]

-- the quotient rounded toward minus infinity, of magnitudes
abbrev pub floor_magnitude : Bool → ℕ → ℕ → ℕ
floor_magnitude negative m d = if negative then div_ceil m d else m / d

none_below_zero : (d : ℕ) → ltb (suc d) 0 ≡ false
none_below_zero d = grind (arith, nat_tests)

floor_div-positive : (x : ℤ) (d : ℕ) → floor_div x (pos (suc d)) ≡ int_div_euclid x (pos (suc d))
floor_div-positive x d = ap (λ b. if b then int_div_euclid (neg_ℤ x) (neg_ℤ (pos (suc d))) else int_div_euclid x (pos (suc d))) (none_below_zero d)

minus_zero : (m : ℕ) → m ≡ 0 → pos 0 ≡ neg_ℤ (pos m)
minus_zero m h = sym (ap (λ k. neg_ℤ (pos k)) h)

floor_div-signs : (n n' : Bool) (m d : ℕ) → floor_div (with_sign n m) (with_sign n' (suc d)) ≡ with_sign (not (beq n n')) (floor_magnitude (not (beq n n')) m (suc d))
floor_div-signs false false m d = floor_div-positive (pos m) d
floor_div-signs true false zero d = floor_div-positive (pos 0) d ∙ ap pos (zero-div (suc d)) ∙ minus_zero _ (div_ceil-zero (suc d))
floor_div-signs true false (suc a) d = floor_div-positive (negsuc a) d ∙ sym (ap (λ k. neg_ℤ (pos k)) (div_ceil-suc a (suc d) (omega arith)))
floor_div-signs false true zero d = ap pos (zero-div (suc d)) ∙ minus_zero _ (div_ceil-zero (suc d))
floor_div-signs false true (suc a) d = sym (ap (λ k. neg_ℤ (pos k)) (div_ceil-suc a (suc d) (omega arith)))
floor_div-signs true true zero d = refl
floor_div-signs true true (suc a) d = refl

no_divisor : (n : Bool) → with_sign n 0 ≡ pos 0
no_divisor true = refl
no_divisor false = refl

pub floor_div-magnitudes : (n n' : Bool) (m d q : ℕ) (x y : ℤ) → with_sign n m ≡ x → with_sign n' d ≡ y → (y ≡ pos 0 → ⊥)
    → q ≡ floor_magnitude (not (beq n n')) m d → with_sign (not (beq n n')) q ≡ floor_div x y
floor_div-magnitudes n n' m zero q x y e f h k = absurd (h (sym f ∙ no_divisor n'))
floor_div-magnitudes n n' m (suc d) q x y e f h k =
    ap (with_sign (not (beq n n'))) k ∙ sym (floor_div-signs n n' m d) ∙ ap (λ z. floor_div z (with_sign n' (suc d))) e ∙ ap (λ z. floor_div x z) f

-- ---- remainders

with_sign-zero : (n : Bool) (m : ℕ) → m ≡ 0 → pos 0 ≡ with_sign n m
with_sign-zero true m h = minus_zero m h
with_sign-zero false m h = ap pos (sym h)

product-signs : (n n' : Bool) (a b : ℕ) → with_sign n a *ℤ with_sign n' b ≡ with_sign (not (beq n n')) (a * b)
product-signs false false a b = refl
product-signs false true a zero = *ℤ-zero (pos a) ∙ with_sign-zero true (a * 0) (omega arith)
product-signs false true a (suc b) = refl
product-signs true false zero b = zero-*ℤ (pos b) ∙ with_sign-zero true (0 * b) (omega arith)
product-signs true false (suc a) b = refl
product-signs true true zero b = zero-*ℤ (with_sign true b) ∙ with_sign-zero false (0 * b) (omega arith)
product-signs true true (suc a) zero = *ℤ-zero (negsuc a) ∙ with_sign-zero false (suc a * 0) (omega arith)
product-signs true true (suc a) (suc b) = refl

-- what the quotient leaves, and what the quotient and one more leave
rest : (n : Bool) (m d : ℕ) → with_sign n m -ℤ with_sign n (d * (m / d)) ≡ with_sign n (m % d)
rest true m d = let parts : d * (m / d) + m % d ≡ m = div-add-mod m d in omega (arith, ints)
rest false m d = let parts : d * (m / d) + m % d ≡ m = div-add-mod m d in omega (arith, ints)

rest_of_more : (n : Bool) (m d : ℕ) → 0 < d → with_sign n m -ℤ with_sign n (d * (m / d + 1)) ≡ with_sign (not n) (d - m % d)
rest_of_more true m d h = let parts : d * (m / d) + m % d ≡ m = div-add-mod m d in let low : m % d < d = mod-lt m h in omega (arith, ints)
rest_of_more false m d h = let parts : d * (m / d) + m % d ≡ m = div-add-mod m d in let low : m % d < d = mod-lt m h in omega (arith, ints)

first_sign : (n n' : Bool) → not (beq n' (not (beq n n'))) ≡ n
first_sign true true = refl
first_sign true false = refl
first_sign false true = refl
first_sign false false = refl

floor_rem-signs : (n n' : Bool) (m d : ℕ) → floor_rem (with_sign n m) (with_sign n' (suc d)) ≡ with_sign n m -ℤ with_sign n (suc d * floor_magnitude (not (beq n n')) m (suc d))
floor_rem-signs n n' m d =
    ap (λ z. with_sign n m -ℤ (with_sign n' (suc d) *ℤ z)) (floor_div-signs n n' m d)
    ∙ ap (λ z. with_sign n m -ℤ z) (product-signs n' (not (beq n n')) (suc d) (floor_magnitude (not (beq n n')) m (suc d)))
    ∙ ap (λ s. with_sign n m -ℤ with_sign s (suc d * floor_magnitude (not (beq n n')) m (suc d))) (first_sign n n')

floor_rem-magnitudes : (n n' : Bool) (m d : ℕ) (x y : ℤ) → with_sign n m ≡ x → with_sign n' (suc d) ≡ y → (q : ℕ) → floor_magnitude (not (beq n n')) m (suc d) ≡ q
    → with_sign n m -ℤ with_sign n (suc d * q) ≡ floor_rem x y
floor_rem-magnitudes n n' m d x y e f q h =
    sym (floor_rem-signs n n' m d ∙ ap (λ k. with_sign n m -ℤ with_sign n (suc d * k)) h)
    ∙ ap (λ z. floor_rem z (with_sign n' (suc d))) e ∙ ap (λ z. floor_rem x z) f

other_sign : (n n' : Bool) → not (beq n n') ≡ true → not n ≡ n'
other_sign true true h = absurd (cc)
other_sign true false h = refl
other_sign false true h = refl
other_sign false false h = absurd (cc)

div_ceil-more : (m d : ℕ) → m % d ≢ 0 → div_ceil m d ≡ m / d + 1
div_ceil-more m d h = omega arith

div_ceil-exact : (m d : ℕ) → m % d ≡ 0 → div_ceil m d ≡ m / d
div_ceil-exact m d h = omega arith

exact_magnitude : (b : Bool) (m d : ℕ) → (m % d ≡ 0) ⊎ (b ≡ false) → floor_magnitude b m d ≡ m / d
exact_magnitude true m d (inl h) = div_ceil-exact m d h
exact_magnitude true m d (inr h) = absurd (cc)
exact_magnitude false m d h = refl

pub floor_rem-next : (n n' : Bool) (m d : ℕ) (x y : ℤ) → with_sign n m ≡ x → with_sign n' d ≡ y → (y ≡ pos 0 → ⊥)
    → not (beq n n') ≡ true → m % d ≢ 0 → with_sign n' (d - m % d) ≡ floor_rem x y
floor_rem-next n n' m zero x y e f h t k = absurd (h (sym f ∙ no_divisor n'))
floor_rem-next n n' m (suc d) x y e f h t k =
    ap (λ s. with_sign s (suc d - m % suc d)) (sym (other_sign n n' t)) ∙ sym (rest_of_more n m (suc d) (omega arith))
    ∙ floor_rem-magnitudes n n' m d x y e f (m / suc d + 1) (ap (λ s. floor_magnitude s m (suc d)) t ∙ div_ceil-more m (suc d) k)

pub floor_rem-same : (n n' : Bool) (m d : ℕ) (x y : ℤ) → with_sign n m ≡ x → with_sign n' d ≡ y → (y ≡ pos 0 → ⊥)
    → (m % d ≡ 0) ⊎ (not (beq n n') ≡ false) → with_sign n (m % d) ≡ floor_rem x y
floor_rem-same n n' m zero x y e f h t = absurd (h (sym f ∙ no_divisor n'))
floor_rem-same n n' m (suc d) x y e f h t =
    sym (rest n m (suc d)) ∙ floor_rem-magnitudes n n' m d x y e f (m / suc d) (exact_magnitude (not (beq n n')) m (suc d) t)
