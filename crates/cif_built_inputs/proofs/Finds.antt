-- What is found in a list, by a test or by a name.
use Rattle.std.specs.Prelude.{ℕ, ◌≡◌, Bool, true, false, List, [], ◌∷◌, map, bytes_eq, Option, Some, option_and_then, is_some, IsPermutation, refl, unwrap_or}
use Rattle.std.specs.List.{find, list_any}
use Rattle.std.proofs.Common.{sym, ap, ◌∙◌, cond, inl, inr}
use Rattle.std.proofs.lemmas.Bool.{cases_Bool, or_left, or_right, false_from_ne_true}
use Rattle.std.proofs.lemmas.List.Sorted.{Contains-permutation}
use Rattle.std.proofs.lemmas.Slice.Eq.{bytes_eq-Decides}
use Rattle.cif_defs.specs.Order.{AreInOrder, place_among}
use Rattle.cif_defs.proofs.NameOrder.{own_place}
use Rattle.cif_nets.proofs.Places.{At, Has, At-below, At-get, At-has, At-same, Has-any}
use Rattle.cif_raw_runs.proofs.Numbers.{contained_has, has_contained}

-- ---- tests

pub any_has : {A : Type 0} (p : A → Bool) (xs : List A) (x : A) → Has xs x → p x ≡ true → list_any p xs ≡ true
any_has p [] x h e = absurd h
any_has p (y ∷ ys) x (inl h) e = or_left (p y) (list_any p ys) (ap p h ∙ e)
any_has p (y ∷ ys) x (inr h) e = or_right (p y) (list_any p ys) (any_has p ys x h e)

pub none_has : {A : Type 0} (p : A → Bool) (xs : List A) → ((x : A) → Has xs x → p x ≡ true → ⊥) → list_any p xs ≡ false
none_has p xs h = false_from_ne_true (list_any p xs) (λ t. let found = Has-any p xs t in h found.0 found.1 found.2)

pub same_any : {A : Type 0} (p : A → Bool) (xs ys : List A) → ((x : A) → Has xs x → p x ≡ true → Has ys x) → ((x : A) → Has ys x → p x ≡ true → Has xs x) → list_any p xs ≡ list_any p ys
same_any p xs ys there back = elim (cases_Bool (list_any p ys)) [
  | inl t ↦ (let found = Has-any p ys t in any_has p xs found.0 (back found.0 found.1 found.2) found.2 ∙ sym t)
  | inr f ↦ none_has p xs (λ x h e. let t : list_any p ys ≡ true = any_has p ys x (there x h e) e in absurd (cc)) ∙ sym f
]

-- ---- what stands in a list

pub Has-map : {A B : Type 0} (f : A → B) (xs : List A) (x : A) → Has xs x → Has (map f xs) (f x)
Has-map f [] x h = absurd h
Has-map f (y ∷ ys) x (inl e) = inl (ap f e)
Has-map f (y ∷ ys) x (inr h) = inr (Has-map f ys x h)

pub Has-unmap : {A B : Type 0} (f : A → B) (xs : List A) (y : B) → Has (map f xs) y → (x : A) × Has xs x × (f x ≡ y)
Has-unmap f [] y h = absurd h
Has-unmap f (x ∷ xs) y (inl e) = (x, inl refl, e)
Has-unmap f (x ∷ xs) y (inr h) = (let r = Has-unmap f xs y h in (r.0, inr r.1, r.2))

pub Has-permutation : {A : Type 0} (xs ys : List A) (x : A) → IsPermutation xs ys → Has xs x → Has ys x
Has-permutation xs ys x p h = has_contained ys x (Contains-permutation xs ys x p (contained_has xs x h))

-- ---- names

pub same_name : (a b : List ℕ) → bytes_eq a b ≡ true → a ≡ b
same_name a b h = (bytes_eq-Decides a b).0 h

pub name_is : (a b : List ℕ) → a ≡ b → bytes_eq a b ≡ true
name_is a b e = (bytes_eq-Decides a b).1 e

pub other_name : (a b : List ℕ) → (a ≡ b → ⊥) → bytes_eq a b ≡ false
other_name a b h = false_from_ne_true (bytes_eq a b) (λ t. h (same_name a b t))

place_is : {A : Type 0} (name_of : A → List ℕ) (xs : List A) (i : ℕ) (x : A) → AreInOrder (map name_of xs) → At xs i x → place_among name_of xs (name_of x) ≡ Some i
place_is name_of xs i x order at = ap (λ y. place_among name_of xs (name_of y)) (sym (At-get xs i x x at)) ∙ own_place name_of xs i x order (At-below xs i x at)

-- each thing has a name of its own
pub only_named : {A : Type 0} (name_of : A → List ℕ) (xs : List A) (x y : A) → AreInOrder (map name_of xs) → Has xs x → Has xs y → name_of x ≡ name_of y → x ≡ y
only_named {A} name_of xs x y order h k e =
    let i = At-has xs x h in
    let j = At-has xs y k in
    let both : Some i.0 ≡ Some j.0 = sym (place_is name_of xs i.0 x order i.1) ∙ ap (place_among name_of xs) e ∙ place_is name_of xs j.0 y order j.1 in
    let same : i.0 ≡ j.0 = ap (λ o. unwrap_or o 0) both in
    At-same xs j.0 x y (rw (sym same) i.1) j.1

-- ---- the first that passes a test

find_step : {A B C : Type 0} (f : A → B) (test : B → Bool) (g : B → Option C) (x : A) (xs : List A) (b : Bool) → test (f x) ≡ b
    → (is_some (option_and_then g (find test (map f xs))) ≡ true → (y : A) × Has xs y × (test (f y) ≡ true) × (is_some (g (f y)) ≡ true))
    → is_some (option_and_then g (cond b (Some (f x)) (find test (map f xs)))) ≡ true → (y : A) × Has (x ∷ xs) y × (test (f y) ≡ true) × (is_some (g (f y)) ≡ true)
find_step f test g x xs true e rest h = (x, inl refl, e, h)
find_step f test g x xs false e rest h = (let r = rest h in (r.0, inr r.1, r.2, r.3))

-- where what is found leads to something, it comes from a thing of the list
pub found_from : {A B C : Type 0} (f : A → B) (test : B → Bool) (g : B → Option C) (xs : List A) → is_some (option_and_then g (find test (map f xs))) ≡ true → (y : A) × Has xs y × (test (f y) ≡ true) × (is_some (g (f y)) ≡ true)
found_from f test g [] h = absurd (cc)
found_from f test g (x ∷ xs) h = find_step f test g x xs (test (f x)) refl (found_from f test g xs) h

find_here : {A B : Type 0} (f : A → B) (test : B → Bool) (y x : A) (xs : List A) (b : Bool) → test (f y) ≡ b → ((z : A) → Has (y ∷ xs) z → test (f z) ≡ true → z ≡ x) → (Has xs x → find test (map f xs) ≡ Some (f x)) → Has (y ∷ xs) x → test (f x) ≡ true
    → cond b (Some (f y)) (find test (map f xs)) ≡ Some (f x)
find_here f test y x xs true e only rest h t = ap (λ z. Some (f z)) (only y (inl refl) e)
find_here f test y x xs false e only rest (inl h) t = absurd (let s : test (f y) ≡ true = ap (λ z. test (f z)) h ∙ t in cc)
find_here f test y x xs false e only rest (inr h) t = rest h

-- the only thing that passes is found
pub find_only : {A B : Type 0} (f : A → B) (test : B → Bool) (xs : List A) (x : A) → ((z : A) → Has xs z → test (f z) ≡ true → z ≡ x) → Has xs x → test (f x) ≡ true → find test (map f xs) ≡ Some (f x)
find_only f test [] x only h t = absurd h
find_only f test (y ∷ xs) x only h t = find_here f test y x xs (test (f y)) refl only (λ k. find_only f test xs x (λ z m. only z (inr m)) k t) h t
