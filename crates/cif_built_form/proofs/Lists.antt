-- What stands in lists, in any order, and how often a number stands there.
use Rattle.std.specs.Prelude.{ℕ, suc, ◌+◌, ◌<◌, ◌≤◌, ◌≡◌, ◌==◌, Bool, true, List, [], ◌∷◌, ◌++◌, map, filter, length, IsPermutation, Option, Some, None, option_to_list, refl}
use Rattle.std.specs.List.{AllByRecursion, AllZip, count_by, flat_map, list_all, list_any, sum_by}
use Rattle.std.proofs.Common.{arith, sym, ap, ◌∙◌, cond, inl, inr, subst}
use Rattle.std.proofs.lemmas.Bool.{and_parts, both_ways, cases_Bool, cond-false, cond-true, cond_both, eq-eqb, eqb-true, ne_eqb, or_left, or_right}
use Rattle.std.proofs.lemmas.List.Concat.{flat_map-append}
use Rattle.std.proofs.lemmas.List.Sorted.{Contains-permutation, IsPermutation-sym, sum_by-IsPermutation}
use Rattle.std.proofs.lemmas.List.Sums.{length-filter, sum_by-append, sum_by-cons}
use Rattle.cif_defs.specs.RawModule.{nets_in}
use Rattle.cif_defs.specs.declared.raw_module.RawBit.{RawBit}
use Rattle.cif_defs.specs.declared.raw_module.RawBit.TheVariants.{Net, Zero, One, X, Z}
use Rattle.cif_checks.specs.Checks.{has_number}
use Rattle.cif_nets.proofs.Places.{At-has, Has, Has-append, Has-any, Has-flat_map, Has-nets}
use Rattle.cif_raw_runs.proofs.Numbers.{contained_has, has_contained}

-- ---- in another order

pub has_permuted : {A : Type 0} (xs ys : List A) (x : A) → IsPermutation xs ys → Has xs x → Has ys x
has_permuted xs ys x p h = has_contained ys x (Contains-permutation xs ys x p (contained_has xs x h))

pub has_before : {A : Type 0} (xs ys : List A) (x : A) → IsPermutation xs ys → Has ys x → Has xs x
has_before xs ys x p h = has_permuted ys xs x (IsPermutation-sym xs ys p) h

-- ---- lists of lists

pub in_flat_map : {A B : Type 0} (f : A → List B) (xs : List A) (x : A) (y : B) → Has xs x → Has (f x) y → Has (flat_map f xs) y
in_flat_map f xs x y h k = (let at = At-has xs x h in Has-flat_map f xs at.0 x y at.1 k)

pub from_flat_map : {A B : Type 0} (f : A → List B) (xs : List A) (y : B) → Has (flat_map f xs) y → (x : A) × Has xs x × Has (f x) y
from_flat_map f [] y h = absurd h
from_flat_map f (x ∷ xs) y h = elim (Has-append (f x) (flat_map f xs) y h) [
  | inl a ↦ (x, inl refl, a)
  | inr b ↦ (let rest = from_flat_map f xs y b in (rest.0, inr rest.1, rest.2))
]

pub in_map : {A B : Type 0} (f : A → B) (xs : List A) (x : A) → Has xs x → Has (map f xs) (f x)
in_map f [] x h = absurd h
in_map f (y ∷ ys) x (inl e) = inl (ap f e)
in_map f (y ∷ ys) x (inr h) = inr (in_map f ys x h)

pub from_map : {A B : Type 0} (f : A → B) (xs : List A) (y : B) → Has (map f xs) y → (x : A) × Has xs x × (f x ≡ y)
from_map f [] y h = absurd h
from_map f (x ∷ xs) y (inl e) = (x, inl refl, e)
from_map f (x ∷ xs) y (inr h) = (let rest = from_map f xs y h in (rest.0, inr rest.1, rest.2))

pub flat_map-flat_map : {A B C : Type 0} (f : B → List C) (g : A → List B) (xs : List A) → flat_map f (flat_map g xs) ≡ flat_map (λ x. flat_map f (g x)) xs
flat_map-flat_map f g [] = refl
flat_map-flat_map f g (x ∷ xs) = flat_map-append f (g x) (flat_map g xs) ∙ ap (λ l. flat_map f (g x) ++ l) (flat_map-flat_map f g xs)

-- ---- options and lists beside each other

pub in_option : {A : Type 0} (o : Option A) (x : A) → Has (option_to_list o) x → o ≡ Some x
in_option None x h = absurd h
in_option (Some y) x (inl e) = ap (λ z. Some z) e
in_option (Some y) x (inr h) = absurd h

pub each_has : {A : Type 0} (P : A → Type 0) (xs : List A) (x : A) → AllByRecursion P xs → Has xs x → P x
each_has P [] x h k = absurd k
each_has P (y ∷ ys) x h (inl e) = rw e at h.0
each_has P (y ∷ ys) x h (inr k) = each_has P ys x h.1 k

pub beside_first : {A B : Type 0} (R : A → B → Type 0) (xs : List A) (ys : List B) (x : A) → AllZip R xs ys → Has xs x → (y : B) × Has ys y × R x y
beside_first R [] ys x h k = absurd k
beside_first R (a ∷ xs) [] x h k = absurd h
beside_first R (a ∷ xs) (b ∷ ys) x h (inl e) = (b, inl refl, rw e at h.0)
beside_first R (a ∷ xs) (b ∷ ys) x h (inr k) = (let rest = beside_first R xs ys x h.1 k in (rest.0, inr rest.1, rest.2))

pub beside_second : {A B : Type 0} (R : A → B → Type 0) (xs : List A) (ys : List B) (y : B) → AllZip R xs ys → Has ys y → (x : A) × Has xs x × R x y
beside_second R xs [] y h k = absurd k
beside_second R [] (b ∷ ys) y h k = absurd h
beside_second R (a ∷ xs) (b ∷ ys) y h (inl e) = (a, inl refl, rw e at h.0)
beside_second R (a ∷ xs) (b ∷ ys) y h (inr k) = (let rest = beside_second R xs ys y h.1 k in (rest.0, inr rest.1, rest.2))

-- ---- tests of lists

pub any_has : {A : Type 0} (p : A → Bool) (xs : List A) (x : A) → Has xs x → p x ≡ true → list_any p xs ≡ true
any_has p [] x h e = absurd h
any_has p (y ∷ ys) x (inl k) e = or_left (p y) (list_any p ys) (ap p k ∙ e)
any_has p (y ∷ ys) x (inr h) e = or_right (p y) (list_any p ys) (any_has p ys x h e)

pub all_has : {A : Type 0} (p : A → Bool) (xs : List A) (x : A) → list_all p xs ≡ true → Has xs x → p x ≡ true
all_has p [] x h k = absurd k
all_has p (y ∷ ys) x h (inl e) = ap p (sym e) ∙ (and_parts (p y) (list_all p ys) h).0
all_has p (y ∷ ys) x h (inr k) = all_has p ys x (and_parts (p y) (list_all p ys) h).1 k

pub has_of_number : (x : ℕ) (xs : List ℕ) → has_number x xs ≡ true → Has xs x
has_of_number x xs h = (let found = Has-any (λ y. y == x) xs h in same x xs found.0 found.1 found.2) where
  same : (x : ℕ) (xs : List ℕ) (y : ℕ) → Has xs y → (y == x) ≡ true → Has xs x
  same x xs y h e = subst (λ z. Has xs z) (eqb-true y x e) h

pub number_of_has : (x : ℕ) (xs : List ℕ) → Has xs x → has_number x xs ≡ true
number_of_has x xs h = any_has (λ y. y == x) xs x h (eq-eqb x x refl)

-- ---- net numbers among bits

pub has_net : (bits : List RawBit) (x : ℕ) → Has (nets_in bits) x → Has bits (Net x)
has_net [] x h = absurd h
has_net (Net y ∷ bits) x (inl e) = inl (ap Net e)
has_net (Net y ∷ bits) x (inr h) = inr (has_net bits x h)
has_net (Zero ∷ bits) x h = inr (has_net bits x h)
has_net (One ∷ bits) x h = inr (has_net bits x h)
has_net (X ∷ bits) x h = inr (has_net bits x h)
has_net (Z ∷ bits) x h = inr (has_net bits x h)

pub net_has : (bits : List RawBit) (x : ℕ) → Has bits (Net x) → Has (nets_in bits) x
net_has bits x h = (let at = At-has bits (Net x) h in Has-nets bits at.0 x at.1)

-- ---- how often a number stands in a list

abbrev pub count : ℕ → List ℕ → ℕ
count x xs = length (filter (λ y. y == x) xs)

count_is : (x : ℕ) (xs : List ℕ) → count x xs ≡ count_by (λ y. y == x) xs
count_is x xs = length-filter (λ y. y == x) xs

pub count-append : (x : ℕ) (xs ys : List ℕ) → count x (xs ++ ys) ≡ count x xs + count x ys
count-append x xs ys = count_is x (xs ++ ys) ∙ sum_by-append (λ y. cond (y == x) 1 0) xs ys ∙ sym (ap (λ k. k + count x ys) (count_is x xs) ∙ ap (λ k. count_by (λ y. y == x) xs + k) (count_is x ys))

pub count-flat_map : {A : Type 0} (f : A → List ℕ) (x : ℕ) (xs : List A) → count x (flat_map f xs) ≡ sum_by (λ a. count x (f a)) xs
count-flat_map f x [] = refl
count-flat_map f x (a ∷ xs) = count-append x (f a) (flat_map f xs) ∙ ap (λ k. count x (f a) + k) (count-flat_map f x xs) ∙ sym (sum_by-cons (λ b. count x (f b)) a xs)

-- the order in which lists are joined doesn't count
pub count_permuted : {A : Type 0} (f : A → List ℕ) (x : ℕ) (xs ys : List A) → IsPermutation xs ys → count x (flat_map f ys) ≡ count x (flat_map f xs)
count_permuted f x xs ys p = count-flat_map f x ys ∙ sum_by-IsPermutation (λ a. count x (f a)) xs ys p ∙ sym (count-flat_map f x xs)

pub count_numbers : (x : ℕ) (xs ys : List ℕ) → IsPermutation xs ys → count x ys ≡ count x xs
count_numbers x xs ys p = count_is x ys ∙ sum_by-IsPermutation (λ y. cond (y == x) 1 0) xs ys p ∙ sym (count_is x xs)

pub count_here : (x y : ℕ) (ys : List ℕ) → y ≡ x → count x (y ∷ ys) ≡ suc (count x ys)
count_here x y ys e = ap length (cond-true (y == x) (y ∷ filter (λ z. z == x) ys) (filter (λ z. z == x) ys) (eq-eqb y x e))

pub count_apart : (x y : ℕ) (ys : List ℕ) → (y ≡ x → ⊥) → count x (y ∷ ys) ≡ count x ys
count_apart x y ys e = ap length (cond-false (y == x) (y ∷ filter (λ z. z == x) ys) (filter (λ z. z == x) ys) (ne_eqb y x e))

pub count_past : (x y : ℕ) (ys : List ℕ) → count x ys ≤ count x (y ∷ ys)
count_past x y ys = cond_both (y == x) (y ∷ filter (λ z. z == x) ys) (filter (λ z. z == x) ys) (λ zs. count x ys ≤ length zs) (λ _. omega arith) (λ _. omega arith)

pub counted : (x : ℕ) (xs : List ℕ) → Has xs x → 0 < count x xs
counted x [] h = absurd h
counted x (y ∷ ys) (inl e) = (let n = count_here x y ys e in omega arith)
counted x (y ∷ ys) (inr h) = (let n : 0 < count x ys = counted x ys h in let m = count_past x y ys in omega arith)

pub uncounted : (x : ℕ) (xs : List ℕ) → (Has xs x → ⊥) → count x xs ≡ 0
uncounted x [] h = refl
uncounted x (y ∷ ys) h = count_apart x y ys (λ e. h (inl e)) ∙ uncounted x ys (λ k. h (inr k))

pub has_counted : (x : ℕ) (xs : List ℕ) → 0 < count x xs → Has xs x
has_counted x xs h = elim (cases_Bool (has_number x xs)) [
  | inl t ↦ has_of_number x xs t
  | inr f ↦ absurd (let none : count x xs ≡ 0 = uncounted x xs (λ k. both_ways (has_number x xs) f (number_of_has x xs k)) in omega arith)
]

-- lists that are joined hold a number together at most once: it stands in one of them alone
pub holder_is_one : {A : Type 0} (f : A → List ℕ) (x : ℕ) (xs : List A) (a b : A) → count x (flat_map f xs) ≤ 1 → Has xs a → Has xs b → Has (f a) x → Has (f b) x → a ≡ b
holder_is_one f x [] a b n h k p q = absurd h
holder_is_one f x (y ∷ ys) a b n (inl h) (inl k) p q = sym h ∙ k
holder_is_one f x (y ∷ ys) a b n (inl h) (inr k) p q =
    absurd (let here : Has (f y) x = rw h p in let first : 0 < count x (f y) = counted x (f y) here in let rest : 0 < count x (flat_map f ys) = counted x (flat_map f ys) (in_flat_map f ys b x k q) in let both = count-append x (f y) (flat_map f ys) in omega arith)
holder_is_one f x (y ∷ ys) a b n (inr h) (inl k) p q =
    absurd (let here : Has (f y) x = rw k q in let first : 0 < count x (f y) = counted x (f y) here in let rest : 0 < count x (flat_map f ys) = counted x (flat_map f ys) (in_flat_map f ys a x h p) in let both = count-append x (f y) (flat_map f ys) in omega arith)
holder_is_one f x (y ∷ ys) a b n (inr h) (inr k) p q = holder_is_one f x ys a b (let both = count-append x (f y) (flat_map f ys) in omega arith) h k p q
