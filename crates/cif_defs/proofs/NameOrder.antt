-- Where a name stands among names in byte order.
use Rattle.std.specs.Prelude.{ℕ, zero, suc, ◌+◌, ◌<◌, ◌≤◌, ◌≡◌, Bool, true, false, List, [], ◌∷◌, map, length, get_or, bytes_eq, Some, None, refl, ◌⊎◌}
use Rattle.std.specs.List.{position_from}
use Rattle.std.specs.Cmp.Lexicographic.{slice_cmp}
use Rattle.std.specs.Ordering.{is_eq, nat_cmp, ordering_reverse}
use Rattle.std.specs.declared.cmp.Ordering.{Ordering}
use Rattle.std.specs.declared.cmp.Ordering.TheVariants.{Less, Equal, Greater}
use Rattle.std.proofs.Common.{arith, sym, ap, ◌∙◌, cond, inl, inr}
use Rattle.std.proofs.lemmas.Cmp.{nat_list_cmp_total}
use Rattle.std.proofs.lemmas.List.{get_or-map, length-map, get_or_default}
use Rattle.std.proofs.lemmas.Map.Keys.{Less-from_sorted}
use Rattle.std.proofs.lemmas.Map.Text.{is_eq-slice_cmp}
use Rattle.std.proofs.lemmas.Slice.Eq.{bytes_eq-Decides}
use Rattle.cif_defs.specs.Order.{AreInOrder}
use Rattle.cif_defs.specs.Order.{place_among}

-- how two names stand to each other
abbrev pub by_bytes : List ℕ → List ℕ → Ordering
by_bytes a b = slice_cmp nat_cmp a b

-- ---- the place of the first thing that passes a test

at_place : {A : Type 0} (test : A → Bool) (i : ℕ) (xs : List A) (d : A) (p : ℕ) → p < length xs → test (get_or xs p d) ≡ true → ((k : ℕ) → k < p → test (get_or xs k d) ≡ false) → position_from test i xs ≡ Some (i + p)
at_place test i [] d p h t f = absurd (omega arith)
at_place test i (x ∷ xs) d zero h t f = ap (λ b. cond b (Some i) (position_from test (i + 1) xs)) t ∙ ap Some (omega arith)
at_place test i (x ∷ xs) d (suc p) h t f =
    ap (λ b. cond b (Some i) (position_from test (i + 1) xs)) (f 0 (omega arith))
    ∙ at_place test (i + 1) xs d p (omega arith) t (λ k l. f (suc k) (omega arith))
    ∙ ap Some (omega arith)

no_place : {A : Type 0} (test : A → Bool) (i : ℕ) (xs : List A) → ((k : ℕ) (d : A) → k < length xs → test (get_or xs k d) ≡ false) → position_from test i xs ≡ None
no_place test i [] f = refl
no_place test i (x ∷ xs) f =
    ap (λ b. cond b (Some i) (position_from test (i + 1) xs)) (f 0 x (omega arith))
    ∙ no_place test (i + 1) xs (λ k d l. f (suc k) d (omega arith))

-- ---- names in order

-- of two things the former has the lesser name
in_order : {A : Type 0} (name_of : A → List ℕ) (xs : List A) (i j : ℕ) (d : A) → AreInOrder (map name_of xs) → i < j → j < length xs → by_bytes (name_of (get_or xs i d)) (name_of (get_or xs j d)) ≡ Less
in_order name_of xs i j d order h l =
    let inside : j < length (map name_of xs) = simp length-map l in
    let less = Less-from_sorted (slice_cmp nat_cmp) (map name_of xs) i j [] order h inside in
    ap (λ a. by_bytes a (name_of (get_or xs j d))) (sym (get_or-map name_of xs i d [] (omega arith)))
    ∙ ap (by_bytes (get_or (map name_of xs) i [])) (sym (get_or-map name_of xs j d [] l))
    ∙ less

-- names that don't compare as equal are two
apart : (a b : List ℕ) (o : Ordering) → by_bytes a b ≡ o → is_eq o ≡ false → bytes_eq a b ≡ false
apart a b o h other = sym (is_eq-slice_cmp a b) ∙ ap is_eq h ∙ other

same : (a b : List ℕ) → by_bytes a b ≡ Equal → bytes_eq a b ≡ true
same a b h = sym (is_eq-slice_cmp a b) ∙ ap is_eq h

less_same : (a b c : List ℕ) → by_bytes a b ≡ Less → by_bytes b c ≡ Equal → by_bytes a c ≡ Less
less_same a b c h e =
    nat_list_cmp_total.antisymm a c
    ∙ ap ordering_reverse (sym (nat_list_cmp_total.congr b c a e) ∙ nat_list_cmp_total.antisymm b a ∙ ap ordering_reverse h)

greater_less : (a b c : List ℕ) → by_bytes a b ≡ Less → by_bytes a c ≡ Greater → by_bytes b c ≡ Greater
greater_less a b c h g =
    let back : by_bytes c a ≡ Less = nat_list_cmp_total.antisymm c a ∙ ap ordering_reverse g in
    nat_list_cmp_total.antisymm b c ∙ ap ordering_reverse (nat_list_cmp_total.trans c a b back h)

-- ---- a search

-- all names before a place are lesser
abbrev pub AreBelow : {A : Type 0} → (A → List ℕ) → List A → List ℕ → ℕ → Type 0
AreBelow {A} name_of xs name low = (k : ℕ) (d : A) → k < low → by_bytes (name_of (get_or xs k d)) name ≡ Less

-- all names from a place on are greater
abbrev pub AreAbove : {A : Type 0} → (A → List ℕ) → List A → List ℕ → ℕ → Type 0
AreAbove {A} name_of xs name high = (k : ℕ) (d : A) → high ≤ k → k < length xs → by_bytes (name_of (get_or xs k d)) name ≡ Greater

before_or_here : (k m : ℕ) → k < m + 1 → (k < m) ⊎ (k ≡ m)
before_or_here k m h = search arith

here_or_after : (k m : ℕ) → m ≤ k → (m < k) ⊎ (k ≡ m)
here_or_after k m h = search arith

-- the thing that is read from a list
read_name : {A : Type 0} (name_of : A → List ℕ) (xs : List A) (m : ℕ) (x d : A) → m < length xs → x ≡ get_or xs m x → name_of x ≡ name_of (get_or xs m d)
read_name name_of xs m x d h is = ap name_of (is ∙ get_or_default xs m x d h)

pub below_more : {A : Type 0} (name_of : A → List ℕ) (xs : List A) (name : List ℕ) (m : ℕ) (x : A) → AreInOrder (map name_of xs) → m < length xs → x ≡ get_or xs m x → by_bytes (name_of x) name ≡ Less → AreBelow name_of xs name (m + 1)
below_more name_of xs name m x order h is less = λ k d l.
    let here : by_bytes (name_of (get_or xs m d)) name ≡ Less = ap (λ a. by_bytes a name) (sym (read_name name_of xs m x d h is)) ∙ less in
    elim (before_or_here k m l) [
      | inl b ↦ nat_list_cmp_total.trans (name_of (get_or xs k d)) (name_of (get_or xs m d)) name (in_order name_of xs k m d order b h) here
      | inr e ↦ ap (λ j. by_bytes (name_of (get_or xs j d)) name) e ∙ here
    ]

pub above_more : {A : Type 0} (name_of : A → List ℕ) (xs : List A) (name : List ℕ) (m : ℕ) (x : A) → AreInOrder (map name_of xs) → m < length xs → x ≡ get_or xs m x → by_bytes (name_of x) name ≡ Greater → AreAbove name_of xs name m
above_more name_of xs name m x order h is greater = λ k d l inside.
    let here : by_bytes (name_of (get_or xs m d)) name ≡ Greater = ap (λ a. by_bytes a name) (sym (read_name name_of xs m x d h is)) ∙ greater in
    elim (here_or_after k m l) [
      | inl b ↦ greater_less (name_of (get_or xs m d)) (name_of (get_or xs k d)) name (in_order name_of xs m k d order b inside) here
      | inr e ↦ ap (λ j. by_bytes (name_of (get_or xs j d)) name) e ∙ here
    ]

-- the thing of the name
pub found_here : {A : Type 0} (name_of : A → List ℕ) (xs : List A) (name : List ℕ) (m : ℕ) (x : A) → AreInOrder (map name_of xs) → m < length xs → x ≡ get_or xs m x → by_bytes (name_of x) name ≡ Equal → Some m ≡ place_among name_of xs name
unfolding place_among
found_here name_of xs name m x order h is equal =
    sym (at_place (λ y. bytes_eq (name_of y) name) 0 xs x m h
    (ap (λ y. bytes_eq (name_of y) name) (sym is) ∙ same (name_of x) name equal)
    (λ k l. apart (name_of (get_or xs k x)) name Less (less_same (name_of (get_or xs k x)) (name_of x) name (ap (λ y. by_bytes (name_of (get_or xs k x)) (name_of y)) is ∙ in_order name_of xs k m x order l h) equal) refl)
    ∙ ap Some (omega arith))

-- no thing has it
pub found_nowhere : {A : Type 0} (name_of : A → List ℕ) (xs : List A) (name : List ℕ) (low high : ℕ) → high ≤ low → AreBelow name_of xs name low → AreAbove name_of xs name high → None ≡ place_among name_of xs name
unfolding place_among
found_nowhere {A} name_of xs name low high met below above = sym (no_place (λ y. bytes_eq (name_of y) name) 0 xs missing) where
  side : (k : ℕ) → (k < low) ⊎ (low ≤ k)
  side k = search arith

  missing : (k : ℕ) (d : A) → k < length xs → bytes_eq (name_of (get_or xs k d)) name ≡ false
  missing k d l = elim (side k) [ inl b ↦ apart (name_of (get_or xs k d)) name Less (below k d b) refl | inr a ↦ apart (name_of (get_or xs k d)) name Greater (above k d (omega arith) l) refl ]

-- each thing is the first of its name
pub own_place : {A : Type 0} (name_of : A → List ℕ) (xs : List A) (p : ℕ) (d : A) → AreInOrder (map name_of xs) → p < length xs → place_among name_of xs (name_of (get_or xs p d)) ≡ Some p
unfolding place_among
own_place name_of xs p d order h =
    at_place (λ y. bytes_eq (name_of y) (name_of (get_or xs p d))) 0 xs d p h
    ((bytes_eq-Decides (name_of (get_or xs p d)) (name_of (get_or xs p d))).1 refl)
    (λ k l. apart (name_of (get_or xs k d)) (name_of (get_or xs p d)) Less (in_order name_of xs k p d order l h) refl)
    ∙ ap Some (omega arith)
