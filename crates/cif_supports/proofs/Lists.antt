-- Lists: what they contain, and the first of their items that passes a test.
use Rattle.std.specs.Prelude.{ℕ, zero, suc, ◌+◌, ◌<◌, ◌≡◌, Bool, true, false, List, [], ◌∷◌, ◌++◌, map, length, get_or, take, Contains, find, flat_map, Some, refl}
use Rattle.std.specs.List.{range_with_len, list_any}
use Rattle.std.proofs.Common.{arith, sym, ap, ◌∙◌, cond, inl, inr, subst}
use Rattle.std.proofs.lemmas.List.{length-take, get_or-take}
use Rattle.std.proofs.lemmas.List.Elements.{Contains-append_left, Contains-append_right}
use Rattle.std.proofs.lemmas.List.FromFn.{length-range_with_len, get_or-range_with_len}
use Rattle.cif_defs.proofs.Exact.{or_parts, or_true, or_left, or_right}

-- ---- what a list contains

pub contains_first : {A : Type 0} (x : A) (xs : List A) → Contains (x ∷ xs) x
contains_first x xs = (0, omega arith, refl)

pub contains_later : {A : Type 0} (y : A) (xs : List A) (x : A) → Contains xs x → Contains (y ∷ xs) x
contains_later y xs x h = let l : h.0 < length xs = h.1 in (suc h.0, omega arith, h.2)

pub contains_map : {A B : Type 0} (f : A → B) (xs : List A) (x : A) → Contains xs x → Contains (map f xs) (f x)
contains_map f [] x h = absurd (let l : h.0 < 0 = h.1 in omega arith)
contains_map f (y ∷ ys) x (zero, l, e) = (0, omega arith, ap f e)
contains_map f (y ∷ ys) x (suc k, l, e) = contains_later (f y) (map f ys) (f x) (contains_map f ys x (k, (let m : suc k < suc (length ys) = l in omega arith), e))

-- each item of a list that is mapped comes from one
pub from_map : {A B : Type 0} (f : A → B) (xs : List A) (y : B) → Contains (map f xs) y → (x : A) × Contains xs x × (f x ≡ y)
from_map f [] y h = absurd (let l : h.0 < 0 = h.1 in omega arith)
from_map f (x ∷ xs) y (zero, l, e) = (x, contains_first x xs, e)
from_map f (x ∷ xs) y (suc k, l, e) =
    let rest = from_map f xs y (k, (let m : suc k < suc (length (map f xs)) = l in omega arith), e) in
    (rest.0, contains_later x xs rest.0 rest.1, rest.2)

pub contains_flat : {A B : Type 0} (f : A → List B) (xs : List A) (x : A) (y : B) → Contains xs x → Contains (f x) y → Contains (flat_map f xs) y
contains_flat f [] x y h g = absurd (let l : h.0 < 0 = h.1 in omega arith)
contains_flat f (z ∷ zs) x y (zero, l, e) g = Contains-append_left (f z) (flat_map f zs) y (subst (λ w. Contains (f w) y) (sym e) g)
contains_flat f (z ∷ zs) x y (suc k, l, e) g =
    Contains-append_right (f z) (flat_map f zs) y (contains_flat f zs x y (k, (let m : suc k < suc (length zs) = l in omega arith), e) g)

pub contains_range : (a n i : ℕ) → i < n → Contains (range_with_len a n) (a + i)
contains_range a n i h = (i, (let e : length (range_with_len a n) ≡ n = length-range_with_len a n in omega arith), get_or-range_with_len a n i (a + i) h)

pub contains_range_map : {A : Type 0} (f : ℕ → A) (n i : ℕ) → i < n → Contains (map f (range_with_len 0 n)) (f i)
contains_range_map f n i h = contains_map f (range_with_len 0 n) i (let e : 0 + i ≡ i = omega arith in subst (λ k. Contains (range_with_len 0 n) k) e (contains_range 0 n i h))

pub contains_range_flat : {A : Type 0} (f : ℕ → List A) (n i : ℕ) (x : A) → i < n → Contains (f i) x → Contains (flat_map f (range_with_len 0 n)) x
contains_range_flat f n i x h g = contains_flat f (range_with_len 0 n) i x (let e : 0 + i ≡ i = omega arith in subst (λ k. Contains (range_with_len 0 n) k) e (contains_range 0 n i h)) g

pub contains_take : {A : Type 0} (n : ℕ) (xs : List A) (x : A) (k : ℕ) → k < n → k < length xs → get_or xs k x ≡ x → Contains (take n xs) x
contains_take n xs x k h l e = (k, (let m = length-take n xs in omega arith), get_or-take n xs k x h ∙ e)

pub only_item : {A : Type 0} (x y : A) → Contains (x ∷ []) y → x ≡ y
only_item x y (zero, l, e) = e
only_item x y (suc k, l, e) = absurd (let m : suc k < 1 = l in omega arith)

pub no_item : {A : Type 0} (y : A) → Contains [] y → ⊥
no_item y h = absurd (let l : h.0 < 0 = h.1 in omega arith)

-- ---- whether some item passes a test

pub any_contained : {A : Type 0} (p : A → Bool) (xs : List A) (x : A) → Contains xs x → p x ≡ true → list_any p xs ≡ true
any_contained p [] x h q = absurd (let l : h.0 < 0 = h.1 in omega arith)
any_contained p (y ∷ ys) x (zero, l, e) q = or_left (p y) (list_any p ys) (ap p e ∙ q)
any_contained p (y ∷ ys) x (suc k, l, e) q = or_right (p y) (list_any p ys) (any_contained p ys x (k, (let m : suc k < suc (length ys) = l in omega arith), e) q)

pub none_contained : {A : Type 0} (p : A → Bool) (xs : List A) (x : A) → list_any p xs ≡ false → Contains xs x → p x ≡ false
none_contained p [] x n h = absurd (let l : h.0 < 0 = h.1 in omega arith)
none_contained p (y ∷ ys) x n (zero, l, e) = ap p (sym e) ∙ (or_parts (p y) (list_any p ys) n).0
none_contained p (y ∷ ys) x n (suc k, l, e) = none_contained p ys x (or_parts (p y) (list_any p ys) n).1 (k, (let m : suc k < suc (length ys) = l in omega arith), e)

pub any_left : {A : Type 0} (p : A → Bool) (xs ys : List A) → list_any p xs ≡ true → list_any p (xs ++ ys) ≡ true
any_left p [] ys h = absurd (cc)
any_left p (x ∷ xs) ys h = elim (or_true (p x) (list_any p xs) h) [
  | inl e ↦ or_left (p x) (list_any p (xs ++ ys)) e
  | inr e ↦ or_right (p x) (list_any p (xs ++ ys)) (any_left p xs ys e)
]

pub any_right : {A : Type 0} (p : A → Bool) (xs ys : List A) → list_any p ys ≡ true → list_any p (xs ++ ys) ≡ true
any_right p [] ys h = h
any_right p (x ∷ xs) ys h = or_right (p x) (list_any p (xs ++ ys)) (any_right p xs ys h)

pub any_map : {A B : Type 0} (p : B → Bool) (f : A → B) (xs : List A) → list_any (λ x. p (f x)) xs ≡ true → list_any p (map f xs) ≡ true
any_map p f [] h = absurd (cc)
any_map p f (x ∷ xs) h = elim (or_true (p (f x)) (list_any (λ y. p (f y)) xs) h) [
  | inl e ↦ or_left (p (f x)) (list_any p (map f xs)) e
  | inr e ↦ or_right (p (f x)) (list_any p (map f xs)) (any_map p f xs e)
]

-- ---- the first that passes

first_by : {A : Type 0} (p : A → Bool) (x : A) (xs : List A) (b : Bool) → p x ≡ b → (b ≡ false → (y : A) × (find p xs ≡ Some y)) → (y : A) × (cond b (Some x) (find p xs) ≡ Some y)
first_by p x xs true e h = (x, refl)
first_by p x xs false e h = h refl

pub first_of_any : {A : Type 0} (p : A → Bool) (xs : List A) → list_any p xs ≡ true → (x : A) × (find p xs ≡ Some x)
first_of_any p [] h = absurd (cc)
first_of_any p (x ∷ xs) h = first_by p x xs (p x) refl (λ e. first_of_any p xs (let o = or_true (p x) (list_any p xs) h in elim o [ inl t ↦ absurd (cc) | inr t ↦ t ]))

found_by : {A : Type 0} (p : A → Bool) (y : A) (ys : List A) (x : A) (b : Bool) → p y ≡ b → (find p ys ≡ Some x → Contains ys x × (p x ≡ true)) → cond b (Some y) (find p ys) ≡ Some x → Contains (y ∷ ys) x × (p x ≡ true)
found_by p y ys x true e h q = let same : y ≡ x = cc in (subst (λ z. Contains (y ∷ ys) z) same (contains_first y ys), ap p (sym same) ∙ e)
found_by p y ys x false e h q = let rest = h q in (contains_later y ys x rest.0, rest.1)

pub first_is_contained : {A : Type 0} (p : A → Bool) (xs : List A) (x : A) → find p xs ≡ Some x → Contains xs x × (p x ≡ true)
first_is_contained p [] x h = absurd (cc)
first_is_contained p (y ∷ ys) x h = found_by p y ys x (p y) refl (λ q. first_is_contained p ys x q) h
