-- How often a net number stands in lists that are joined, and numbers that rise.
use Rattle.std.specs.Prelude.{ℕ, zero, suc, ◌+◌, ◌<◌, ◌≤◌, ◌≡◌, Bool, true, false, List, [], ◌∷◌, ◌++◌, eqb, IsPermutation, refl, sum_by}
use Rattle.std.specs.List.{flat_map}
use Rattle.std.proofs.Common.{arith, sym, ap, ◌∙◌, inl, inr}
use Rattle.std.proofs.lemmas.Bool.{eq-eqb, eqb-true, false_from_ne_true}
use Rattle.std.proofs.lemmas.List.{append_assoc}
use Rattle.std.proofs.lemmas.List.Sorted.{sum_by-IsPermutation}
use Rattle.std.proofs.lemmas.List.Sums.{sum_by-append}
use Rattle.cif_nets.proofs.Places.{At, Has}
use Rattle.cif_checks.specs.Checks.{has_number}
use Rattle.cif_emit.specs.Makers.{RiseBetween}

abbrev pub one_if : Bool → ℕ
one_if true = 1
one_if false = 0

-- how often x stands in a list
abbrev pub count : ℕ → List ℕ → ℕ
count x [] = 0
count x (y ∷ ys) = one_if (eqb y x) + count x ys

pub count-append : (x : ℕ) (xs ys : List ℕ) → count x (xs ++ ys) ≡ count x xs + count x ys
count-append x [] ys = omega arith
count-append x (z ∷ zs) ys = (let e = count-append x zs ys in omega arith)

pub count-has : (x : ℕ) (xs : List ℕ) → Has xs x → 1 ≤ count x xs
count-has x [] h = absurd h
count-has x (y ∷ ys) (inl e) = (let t : one_if (eqb y x) ≡ 1 = ap one_if (eq-eqb y x e) in omega arith)
count-has x (y ∷ ys) (inr h) = (let n : 1 ≤ count x ys = count-has x ys h in omega arith)

pub count-flat_map : {A : Type 0} (x : ℕ) (f : A → List ℕ) (xs : List A) (i : ℕ) (d : A) → At xs i d → count x (f d) ≤ count x (flat_map f xs)
count-flat_map x f [] i d at = absurd at
count-flat_map x f (y ∷ ys) zero d at = (let e = count-append x (f y) (flat_map f ys) in let s : count x (f y) ≡ count x (f d) = ap (λ z. count x (f z)) at in omega arith)
count-flat_map x f (y ∷ ys) (suc i) d at = (let e = count-append x (f y) (flat_map f ys) in let n = count-flat_map x f ys i d at in omega arith)

count_by : (x : ℕ) (xs : List ℕ) → sum_by (λ y. one_if (eqb y x)) xs ≡ count x xs
count_by x [] = refl
count_by x (y ∷ ys) = sum_by-append (λ z. one_if (eqb z x)) (y ∷ []) ys ∙ (let e = count_by x ys in omega arith)

pub count-permutation : (x : ℕ) (xs ys : List ℕ) → IsPermutation xs ys → count x ys ≡ count x xs
count-permutation x xs ys p = sym (count_by x ys) ∙ sum_by-IsPermutation (λ y. one_if (eqb y x)) xs ys p ∙ count_by x xs

-- where x stands once in what things give, it has one place
pub one_place : {A : Type 0} (x : ℕ) (f : A → List ℕ) (xs : List A) (i j : ℕ) (d e : A) → At xs i d → At xs j e → Has (f d) x → Has (f e) x → count x (flat_map f xs) ≤ 1 → i ≡ j
one_place x f [] i j d e at at' h k n = absurd at
one_place x f (y ∷ ys) zero zero d e at at' h k n = refl
one_place x f (y ∷ ys) zero (suc j) d e at at' h k n = absurd (
    let both = count-append x (f y) (flat_map f ys) in
    let first : 1 ≤ count x (f y) = count-has x (f y) (rw at h) in
    let later : 1 ≤ count x (f e) = count-has x (f e) k in
    let more = count-flat_map x f ys j e at' in
    omega arith)
one_place x f (y ∷ ys) (suc i) zero d e at at' h k n = absurd (
    let both = count-append x (f y) (flat_map f ys) in
    let first : 1 ≤ count x (f y) = count-has x (f y) (rw at' k) in
    let later : 1 ≤ count x (f d) = count-has x (f d) h in
    let more = count-flat_map x f ys i d at in
    omega arith)
one_place x f (y ∷ ys) (suc i) (suc j) d e at at' h k n =
    ap suc (one_place x f ys i j d e at at' h k (let both = count-append x (f y) (flat_map f ys) in omega arith))

pub flat_map_twice : {A B C : Type 0} (f : B → List C) (g : A → List B) (xs : List A) → flat_map (λ x. flat_map f (g x)) xs ≡ flat_map f (flat_map g xs)
flat_map_twice f g [] = refl
flat_map_twice {A} {B} {C} f g (x ∷ xs) = ap (λ (ys : List C). flat_map f (g x) ++ ys) (flat_map_twice f g xs) ∙ joined (g x) where
  joined : (bs : List B) → flat_map f bs ++ flat_map f (flat_map g xs) ≡ flat_map f (bs ++ flat_map g xs)
  joined [] = refl
  joined (b ∷ bs) = append_assoc (f b) (flat_map f bs) (flat_map f (flat_map g xs)) ∙ ap (λ (ys : List C). f b ++ ys) (joined bs)

-- ---- numbers that rise

below_all : (used : List ℕ) (a b x : ℕ) (xs : List ℕ) → RiseBetween used a b xs → x < a → count x xs ≡ 0
below_all used a b x [] r l = refl
below_all used a b x (y ∷ ys) r l =
    let up : a ≤ y = r.0 in
    let t : one_if (eqb y x) ≡ 0 = ap one_if (false_from_ne_true (eqb y x) (λ e. let same : y ≡ x = eqb-true y x e in omega arith)) in
    let rest = below_all used (y + 1) b x ys r.2 (omega arith) in
    omega arith

once_by : (used : List ℕ) (b x y : ℕ) (ys : List ℕ) (t : Bool) → eqb y x ≡ t → RiseBetween used (y + 1) b ys → count x ys ≤ 1 → one_if (eqb y x) + count x ys ≤ 1
once_by used b x y ys true e r rest = (let s : one_if (eqb y x) ≡ 1 = ap one_if e in let same : y ≡ x = eqb-true y x e in let none : count x ys ≡ 0 = below_all used (y + 1) b x ys r (omega arith) in omega arith)
once_by used b x y ys false e r rest = (let s : one_if (eqb y x) ≡ 0 = ap one_if e in omega arith)

pub rise_once : (used : List ℕ) (a b x : ℕ) (xs : List ℕ) → RiseBetween used a b xs → count x xs ≤ 1
rise_once used a b x [] r = omega arith
rise_once used a b x (y ∷ ys) r = once_by used b x y ys (eqb y x) refl r.2 (rise_once used (y + 1) b x ys r.2)

pub rise_unused : (used : List ℕ) (a b x : ℕ) (xs : List ℕ) → RiseBetween used a b xs → Has xs x → has_number x used ≡ false
rise_unused used a b x [] r h = absurd h
rise_unused used a b x (y ∷ ys) r (inl e) = ap (λ z. has_number z used) (sym e) ∙ r.1
rise_unused used a b x (y ∷ ys) r (inr h) = rise_unused used (y + 1) b x ys r.2 h
