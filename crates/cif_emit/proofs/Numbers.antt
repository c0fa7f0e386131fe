-- Numbers that are used, and numbers that rise.
use Rattle.std.specs.Prelude.{ℕ, zero, suc, ◌+◌, ◌-◌, ◌<◌, ◌≤◌, ◌≡◌, ◌⊎◌, ◌==◌, true, false, List, [], ◌∷◌, ◌++◌, length, get_or}
use Rattle.std.specs.List.Sorted.{IsStrictlyIncreasing}
use Rattle.std.proofs.Common.{arith, inl, inr}
use Rattle.std.proofs.lemmas.Bool.Decides.{nat_tests}
use Rattle.std.proofs.lemmas.List.Folds.{list_any_none, list_any_at}
use Rattle.std.proofs.lemmas.List.Elements.{All-from_get_or}
use Rattle.cif_checks.specs.Checks.{has_number}
use Rattle.cif_emit.specs.Makers.{RiseBetween}

-- ---- used numbers, which rise

-- a number below all that stand from a place on
later_above : (xs : List ℕ) → IsStrictlyIncreasing xs → (x place n : ℕ) → x < get_or xs place 0 → place + n < length xs → x < get_or xs (place + n) 0
later_above xs rising x place zero h l = let e : place + 0 ≡ place = omega arith in rw e h
later_above xs rising x place (suc n) h l =
    let before : x < get_or xs (place + n) 0 = later_above xs rising x place n h (omega arith) in
    let step : get_or xs (place + n) 0 < get_or xs (place + n + 1) 0 = rising (place + n) (omega arith) in
    let e : place + suc n ≡ place + n + 1 = omega arith in
    rw e (omega arith)

le_or_lt : (i n : ℕ) → (i < n) ⊎ (n ≤ i)
le_or_lt i n = search arith

other_number : (y x : ℕ) → (y < x) ⊎ (x < y) → (y == x) ≡ false
other_number y x (inl h) = grind (arith, nat_tests)
other_number y x (inr h) = grind (arith, nat_tests)

apart : (xs : List ℕ) → IsStrictlyIncreasing xs → (x place : ℕ) → ((k : ℕ) → k < place → get_or xs k 0 < x) → (place < length xs → x < get_or xs place 0)
    → (k : ℕ) → k < length xs → (k < place) ⊎ (place ≤ k) → (get_or xs k 0 < x) ⊎ (x < get_or xs k 0)
apart xs rising x place below above k l (inl h) = inl (below k h)
apart xs rising x place below above k l (inr h) =
    let rest : place + (k - place) ≡ k = omega arith in
    inr (rw (← rest) (later_above xs rising x place (k - place) (above (omega arith)) (omega arith)))

-- x isn't used: the first `place` used numbers are below it, and the next one is above it
pub not_used : (xs : List ℕ) → IsStrictlyIncreasing xs → (x place : ℕ) → ((k : ℕ) → k < place → get_or xs k 0 < x) → (place < length xs → x < get_or xs place 0) → has_number x xs ≡ false
not_used xs rising x place below above =
    list_any_none (λ y. y == x) xs (All-from_get_or (λ y. (y == x) ≡ false) xs 0
    (λ k l. other_number (get_or xs k 0) x (apart xs rising x place below above k l (le_or_lt k place))))

pub same_number : (x : ℕ) → (x == x) ≡ true
same_number x = grind (arith, nat_tests)

pub used_at : (xs : List ℕ) (x place : ℕ) → place < length xs → get_or xs place 0 ≡ x → has_number x xs ≡ true
used_at xs x place l e = list_any_at (λ y. y == x) xs place 0 l (rw e (same_number x))

-- ---- numbers that rise

rise_from : (used : List ℕ) (a b c : ℕ) (ys : List ℕ) → a ≤ b → RiseBetween used b c ys → RiseBetween used a c ys
rise_from used a b c [] l h = omega arith
rise_from used a b c (y ∷ ys) l h = (let first : b ≤ y = h.0 in omega arith, h.1, h.2)

pub rise_append : (used : List ℕ) (a b c : ℕ) (xs ys : List ℕ) → RiseBetween used a b xs → RiseBetween used b c ys → RiseBetween used a c (xs ++ ys)
rise_append used a b c [] ys h k = rise_from used a b c ys h k
rise_append used a b c (x ∷ xs) ys h k = (h.0, h.1, rise_append used (x + 1) b c xs ys h.2 k)

-- numbers that rise between two bounds, one by one
pub above_first : (used : List ℕ) (a b : ℕ) (xs : List ℕ) → RiseBetween used a b xs → a ≤ b
above_first used a b [] h = h
above_first used a b (x ∷ xs) h = let later : x + 1 ≤ b = above_first used (x + 1) b xs h.2 in let first : a ≤ x = h.0 in omega arith
