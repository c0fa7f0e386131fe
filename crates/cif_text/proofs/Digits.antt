-- The number of decimal digits, digit by digit.
use Rattle.std.specs.Prelude.{ℕ, ◌+◌, ◌<◌, ◌≤◌, ◌^◌, ◌≡◌, nat_lt, true, false, ◌&&◌, List, [], ◌∷◌, fold, length, get_or, Some, None, ◌⊎◌}
use Rattle.std.proofs.Common.{arith, sym, ap, ◌∙◌, drop, inl, inr, if◌then◌else◌}
use Rattle.std.proofs.lemmas.List.{at_drop_more, at_drop_all}
use Rattle.std.proofs.lemmas.Bool.Decides.{nat_tests}
use Rattle.cif_defs.specs.Text.{is_decimal, decimal_value, number_read}
use Rattle.cif_text.specs.Numbers.{below_limit, number_with}

-- digits only raise a number
grows : (n : ℕ) (digits : List ℕ) → n ≤ fold number_with n digits
grows n [] = omega arith
grows n (b ∷ digits) = omega (arith, grows (number_with n b) digits)

pub too_large : (n : ℕ) → 2 ^ 64 ≤ n → None ≡ below_limit n
too_large n h =
    let t : nat_lt n (2 ^ 64) ≡ false = grind (arith, nat_tests) in
    let e : below_limit n ≡ None = ap (λ b. if b then Some n else None) t in cc

pub small : (n : ℕ) → n < 2 ^ 64 → Some n ≡ below_limit n
small n h =
    let t : nat_lt n (2 ^ 64) ≡ true = grind (arith, nat_tests) in
    let e : below_limit n ≡ Some n = ap (λ b. if b then Some n else None) t in cc

large_or_small : (n : ℕ) → (n < 2 ^ 64) ⊎ (2 ^ 64 ≤ n)
large_or_small n = search arith

pub not_below : (n : ℕ) → None ≡ below_limit n → 2 ^ 64 ≤ n
not_below n h = elim (large_or_small n) [ inl l ↦ absurd (let e = small n l in cc) | inr g ↦ g ]

pub is_below : (n m : ℕ) → Some m ≡ below_limit n → m ≡ n
is_below n m h = elim (large_or_small n) [ inl l ↦ (let e = small n l in cc) | inr g ↦ absurd (let e = too_large n g in cc) ]

-- the next digit of a number that is read so far
pub digit_turn : (n i : ℕ) (digits : List ℕ) → i < length digits → fold number_with n (drop i digits) ≡ fold number_with (number_with n (get_or digits i 0)) (drop (i + 1) digits)
digit_turn n i digits h = at_drop_more (fold number_with n) digits i 0 h

pub digits_end : (n i : ℕ) (digits : List ℕ) → length digits ≤ i → fold number_with n (drop i digits) ≡ n
digits_end n i digits h = at_drop_all (fold number_with n) digits i h

-- too large with one more digit, so too large
pub too_large_on : (n i : ℕ) (digits : List ℕ) → i < length digits → fold number_with n (drop i digits) ≡ decimal_value digits → None ≡ below_limit (number_with n (get_or digits i 0)) → None ≡ below_limit (decimal_value digits)
too_large_on n i digits h so_far past =
    let next = digit_turn n i digits h in
    let more = grows (number_with n (get_or digits i 0)) (drop (i + 1) digits) in
    let large = not_below (number_with n (get_or digits i 0)) past in
    too_large (decimal_value digits) (omega arith)

pub digits_read : (n i : ℕ) (digits : List ℕ) → length digits ≤ i → n < 2 ^ 64 → fold number_with n (drop i digits) ≡ decimal_value digits → Some n ≡ below_limit (decimal_value digits)
digits_read n i digits h fits so_far = small n fits ∙ ap below_limit (sym (digits_end n i digits h) ∙ so_far)

-- the test of a number and then its limit
pub number_none : (text : List ℕ) → is_decimal text ≡ false → None ≡ number_read text
unfolding number_read
number_none text h = ap (λ b. if b && nat_lt (decimal_value text) (2 ^ 64) then Some (decimal_value text) else None) (sym h)

pub number_some : (text : List ℕ) → is_decimal text ≡ true → below_limit (decimal_value text) ≡ number_read text
unfolding number_read
number_some text h = ap (λ b. if b && nat_lt (decimal_value text) (2 ^ 64) then Some (decimal_value text) else None) (sym h)

pub fits_next : (n m : ℕ) → Some m ≡ below_limit n → (m ≡ n) × (m < 2 ^ 64)
fits_next n m h = elim (large_or_small n) [ inl l ↦ (let e : m ≡ n = (let s = small n l in cc) in (e, omega arith)) | inr g ↦ absurd (let e = too_large n g in cc) ]
