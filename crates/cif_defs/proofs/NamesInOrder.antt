-- When names stand in byte order, each once: each before the next.
use Rattle.std.specs.Prelude.{ℕ, ◌+◌, ◌-◌, ◌<◌, ◌≤◌, ◌≡◌, List, [], ◌∷◌, map, length, get_or}
use Rattle.std.specs.Cmp.Lexicographic.{slice_cmp}
use Rattle.std.specs.List.Sorted.{IsStrictlySortedBy}
use Rattle.std.specs.Ordering.{nat_cmp}
use Rattle.std.specs.declared.cmp.Ordering.{Ordering}
use Rattle.std.specs.declared.cmp.Ordering.TheVariants.{Less}
use Rattle.std.proofs.Common.{arith, sym, ap, ◌∙◌}
use Rattle.std.proofs.lemmas.Cmp.{nat_list_cmp_total}
use Rattle.std.proofs.lemmas.List.{get_or-map, length-map, get_or_default}
use Rattle.std.proofs.lemmas.Map.Keys.{Less-from_sorted, sorted_from_all_adjacent}
use Rattle.cif_defs.specs.Order.{AreInOrder}

-- how the names at two neighbouring places stand to each other
abbrev pub neighbours : {A : Type 0} → (A → List ℕ) → List A → ℕ → A → Ordering
neighbours {A} name_of xs k d = slice_cmp nat_cmp (name_of (get_or xs k d)) (name_of (get_or xs (k + 1) d))

-- each name before place n stands before the next
abbrev pub RiseTo : {A : Type 0} → (A → List ℕ) → List A → ℕ → Type 0
RiseTo {A} name_of xs n = (k : ℕ) (d : A) → k + 1 < n → neighbours name_of xs k d ≡ Less

some_in_order : {A : Type 0} (name_of : A → List ℕ) (xs : List A) (d : A) → RiseTo name_of xs (length xs) → AreInOrder (map name_of xs)
some_in_order name_of xs d h = sorted_from_all_adjacent nat_list_cmp_total (map name_of xs) (name_of d) (λ k l.
    let inside : k + 1 < length xs = omega (arith, length-map xs name_of) in
    ap (λ a. slice_cmp nat_cmp a (get_or (map name_of xs) (k + 1) (name_of d))) (get_or-map name_of xs k d (name_of d) (omega arith))
    ∙ ap (slice_cmp nat_cmp (name_of (get_or xs k d))) (get_or-map name_of xs (k + 1) d (name_of d) inside)
    ∙ h k d inside)

pub in_order : {A : Type 0} (name_of : A → List ℕ) (xs : List A) (n : ℕ) → length xs ≤ n → RiseTo name_of xs n → AreInOrder (map name_of xs)
unfolding IsStrictlySortedBy
in_order name_of [] n l h = tt
in_order name_of (x ∷ xs) n l h = some_in_order name_of (x ∷ xs) x (λ k d b. h k d (let below : k + 1 < length (x ∷ xs) = b in omega arith))

neighbours_rise : {A : Type 0} (name_of : A → List ℕ) (xs : List A) (k : ℕ) (d : A) → AreInOrder (map name_of xs) → k + 1 < length xs → neighbours name_of xs k d ≡ Less
neighbours_rise name_of xs k d h l =
    let inside : k + 1 < length (map name_of xs) = omega (arith, length-map xs name_of) in
    ap (λ a. slice_cmp nat_cmp a (name_of (get_or xs (k + 1) d))) (sym (get_or-map name_of xs k d (name_of d) (omega arith)))
    ∙ ap (slice_cmp nat_cmp (get_or (map name_of xs) k (name_of d))) (sym (get_or-map name_of xs (k + 1) d (name_of d) l))
    ∙ Less-from_sorted (slice_cmp nat_cmp) (map name_of xs) k (k + 1) (name_of d) h (omega arith) inside

same_place : {A : Type 0} (xs : List A) (i j : ℕ) (x : A) → x ≡ get_or xs i x → i ≡ j → x ≡ get_or xs j x
same_place xs i j x h e = h ∙ ap (λ k. get_or xs k x) e

-- where names are in order, one compares as less with the next
pub next_is_less : {A : Type 0} (name_of : A → List ℕ) (xs : List A) (i : ℕ) (x y : A) (a b : List ℕ) (o : Ordering) → x ≡ get_or xs (i - 1) x → y ≡ get_or xs i y → a ≡ name_of x → b ≡ name_of y → o ≡ slice_cmp nat_cmp a b
    → 1 ≤ i → i < length xs → AreInOrder (map name_of xs) → o ≡ Less
next_is_less name_of xs i x y a b o at_x at_y ea eb eo some inside order =
    let here : y ≡ get_or xs (i - 1 + 1) y = same_place xs i (i - 1 + 1) y at_y (omega arith) in
    let next : get_or xs (i - 1 + 1) x ≡ y = sym (here ∙ get_or_default xs (i - 1 + 1) y x (omega arith)) in
    let rise : slice_cmp nat_cmp (name_of (get_or xs (i - 1) x)) (name_of (get_or xs (i - 1 + 1) x)) ≡ Less = neighbours_rise name_of xs (i - 1) x order (omega arith) in
    eo ∙ ap (λ n. slice_cmp nat_cmp n b) (ea ∙ ap name_of at_x) ∙ ap (slice_cmp nat_cmp (name_of (get_or xs (i - 1) x))) (eb ∙ ap name_of (sym next)) ∙ rise
