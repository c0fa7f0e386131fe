-- How often a name stands among the names of things, and when things that are sorted by name are in order.
use Rattle.std.specs.Prelude.{ℕ, zero, suc, ◌+◌, ◌<◌, ◌≤◌, ◌≡◌, Bool, true, false, List, [], ◌∷◌, ◌++◌, map, length, get_or, bytes_eq, refl, IsPermutation}
use Rattle.std.specs.List.{sum_by, AllByRecursion}
use Rattle.std.specs.List.Sorted.{IsSortedByKey, IsStrictlySortedBy}
use Rattle.std.specs.Cmp.Lexicographic.{slice_cmp}
use Rattle.std.specs.Ordering.{is_eq, is_lt, nat_cmp, ordering_reverse}
use Rattle.std.specs.declared.cmp.Ordering.{Ordering}
use Rattle.std.specs.declared.cmp.Ordering.TheVariants.{Less, Equal, Greater}
use Rattle.std.proofs.Common.{add-one, arith, sym, ap, ◌∙◌, cond, inl, inr, subst}
use Rattle.std.proofs.lemmas.Bool.{cond_both}
use Rattle.std.proofs.lemmas.Cmp.{nat_list_cmp_total, tied_itself}
use Rattle.std.proofs.lemmas.List.Sums.{sum_by-cons}
use Rattle.std.proofs.lemmas.List.Sorted.{sum_by-IsPermutation}
use Rattle.std.proofs.lemmas.Map.Text.{is_eq-slice_cmp}
use Rattle.std.proofs.lemmas.Slice.Eq.{bytes_eq-Decides}
use Rattle.cif_defs.specs.Order.{AreInOrder}
use Rattle.cif_defs.proofs.NamesInOrder.{in_order}
use Rattle.cif_nets.proofs.Places.{Has}

-- ---- one name

-- 1 where two names are one
abbrev pub hit : List ℕ → List ℕ → ℕ
hit name other = cond (bytes_eq name other) 1 0

pub hit_same : (a b : List ℕ) → a ≡ b → hit a b ≡ 1
hit_same a b e = ap (λ t. cond t 1 0) ((bytes_eq-Decides a b).1 e)

hit_by : (t : Bool) → 0 < cond t 1 0 → t ≡ true
hit_by true h = refl
hit_by false h = absurd (omega arith)

pub same_hit : (a b : List ℕ) → 0 < hit a b → a ≡ b
same_hit a b h = (bytes_eq-Decides a b).0 (hit_by (bytes_eq a b) h)

pub hit_once : (a b : List ℕ) → hit a b ≤ 1
hit_once a b = cond_both (bytes_eq a b) 1 0 (λ n. n ≤ 1) (λ _. omega arith) (λ _. omega arith)

-- ---- names of things

-- how many things have a name
unfoldable pub times : {A : Type 0} → (A → List ℕ) → List ℕ → List A → ℕ
times name_of name [] = 0
times name_of name (x ∷ xs) = hit name (name_of x) + times name_of name xs

pub times-append : {A : Type 0} (name_of : A → List ℕ) (name : List ℕ) (xs ys : List A) → times name_of name (xs ++ ys) ≡ times name_of name xs + times name_of name ys
unfolding times
times-append name_of name [] ys = omega arith
times-append name_of name (x ∷ xs) ys = (let rest = times-append name_of name xs ys in omega arith)

pub times-map : {A B : Type 0} (name_of : B → List ℕ) (f : A → B) (name : List ℕ) (xs : List A) → times name_of name (map f xs) ≡ times (λ x. name_of (f x)) name xs
unfolding times
times-map name_of f name [] = refl
times-map name_of f name (x ∷ xs) = ap (λ n. hit name (name_of (f x)) + n) (times-map name_of f name xs)

as_sum : {A : Type 0} (name_of : A → List ℕ) (name : List ℕ) (xs : List A) → times name_of name xs ≡ sum_by (λ x. hit name (name_of x)) xs
unfolding times
as_sum name_of name [] = refl
as_sum name_of name (x ∷ xs) = ap (λ n. hit name (name_of x) + n) (as_sum name_of name xs) ∙ sym (sum_by-cons (λ x. hit name (name_of x)) x xs)

pub times-permutation : {A : Type 0} (name_of : A → List ℕ) (name : List ℕ) (xs ys : List A) → IsPermutation xs ys → times name_of name ys ≡ times name_of name xs
times-permutation name_of name xs ys h = as_sum name_of name ys ∙ sum_by-IsPermutation (λ x. hit name (name_of x)) xs ys h ∙ sym (as_sum name_of name xs)

pub some_time : {A : Type 0} (name_of : A → List ℕ) (name : List ℕ) (xs : List A) (x : A) → Has xs x → name ≡ name_of x → 0 < times name_of name xs
unfolding times
some_time name_of name [] x h e = absurd h
some_time name_of name (y ∷ ys) x (inl f) e = (let one = hit_same name (name_of y) (e ∙ ap name_of (sym f)) in omega arith)
some_time name_of name (y ∷ ys) x (inr h) e = (let rest = some_time name_of name ys x h e in omega arith)

pub no_time : {A : Type 0} (name_of : A → List ℕ) (name : List ℕ) (xs : List A) → ((x : A) → Has xs x → name ≡ name_of x → ⊥) → times name_of name xs ≡ 0
unfolding times
no_time name_of name [] h = refl
no_time name_of name (x ∷ xs) h =
    let none : 0 < hit name (name_of x) → ⊥ = λ l. h x (inl refl) (same_hit name (name_of x) l) in
    let rest : times name_of name xs ≡ 0 = no_time name_of name xs (λ y k. h y (inr k)) in
    omega arith

-- what has a name that is counted
pub record Named {A : Type 0} (name_of : A → List ℕ) (name : List ℕ) (xs : List A) : Type 0 where
  pub thing : A
  pub has : Has xs thing
  pub is : name ≡ name_of thing

named_by : {A : Type 0} (name_of : A → List ℕ) (name : List ℕ) (x : A) (xs : List A) (t : Bool) → bytes_eq name (name_of x) ≡ t → (0 < times name_of name xs → Named name_of name xs) → 0 < cond t 1 0 + times name_of name xs → Named name_of name (x ∷ xs)
named_by name_of name x xs true e rest l = record { thing = x; has = inl refl; is = (bytes_eq-Decides name (name_of x)).0 e }
named_by name_of name x xs false e rest l = (let found = rest (omega arith) in record { thing = found.thing; has = inr found.has; is = found.is })

pub named : {A : Type 0} (name_of : A → List ℕ) (name : List ℕ) (xs : List A) → 0 < times name_of name xs → Named name_of name xs
unfolding times
named name_of name [] l = absurd (omega arith)
named name_of name (x ∷ xs) l = named_by name_of name x xs (bytes_eq name (name_of x)) refl (named name_of name xs) l

-- ---- things in order

less_itself : (a : List ℕ) → slice_cmp nat_cmp a a ≡ Less → ⊥
less_itself a h = (let e = tied_itself nat_list_cmp_total a in absurd (cc))

later : {A : Type 0} (name_of : A → List ℕ) (first : List ℕ) (xs : List A) (x : A) → AllByRecursion (λ y. slice_cmp nat_cmp first y ≡ Less) (map name_of xs) → Has xs x → slice_cmp nat_cmp first (name_of x) ≡ Less
later name_of first [] x h k = absurd k
later name_of first (y ∷ ys) x h (inl e) = subst (λ z. slice_cmp nat_cmp first (name_of z) ≡ Less) e h.0
later name_of first (y ∷ ys) x h (inr k) = later name_of first ys x h.1 k

pub either_once : (a b : ℕ) → a ≤ 1 → b ≤ 1 → (0 < a → b ≡ 0) → a + b ≤ 1
either_once zero b h k alone = omega arith
either_once (suc a) b h k alone = (let none : b ≡ 0 = alone (omega arith) in omega arith)

pub once : {A : Type 0} (name_of : A → List ℕ) (name : List ℕ) (xs : List A) → AreInOrder (map name_of xs) → times name_of name xs ≤ 1
unfolding times IsStrictlySortedBy
once name_of name [] h = omega arith
once name_of name (x ∷ xs) h =
    let few : hit name (name_of x) ≤ 1 = hit_once name (name_of x) in
    let rest : times name_of name xs ≤ 1 = once name_of name xs h.1 in
    let alone : 0 < hit name (name_of x) → times name_of name xs ≡ 0 = λ l. no_time name_of name xs (λ y k e.
    less_itself (name_of x) (subst (λ a. slice_cmp nat_cmp (name_of x) a ≡ Less) (sym e ∙ same_hit name (name_of x) l) (later name_of (name_of x) xs y h.0 k))) in
    either_once (hit name (name_of x)) (times name_of name xs) few rest alone

-- a thing is told by its name
pub same_named : {A : Type 0} (name_of : A → List ℕ) (xs : List A) (x y : A) → AreInOrder (map name_of xs) → Has xs x → Has xs y → name_of x ≡ name_of y → x ≡ y
unfolding IsStrictlySortedBy
same_named name_of [] x y h k l e = absurd k
same_named name_of (z ∷ zs) x y h (inl f) (inl g) e = sym f ∙ g
same_named name_of (z ∷ zs) x y h (inl f) (inr k) e = absurd (less_itself (name_of y) (subst (λ a. slice_cmp nat_cmp a (name_of y) ≡ Less) (ap name_of f ∙ e) (later name_of (name_of z) zs y h.0 k)))
same_named name_of (z ∷ zs) x y h (inr k) (inl g) e = absurd (less_itself (name_of x) (subst (λ a. slice_cmp nat_cmp a (name_of x) ≡ Less) (ap name_of g ∙ sym e) (later name_of (name_of z) zs x h.0 k)))
same_named name_of (z ∷ zs) x y h (inr k) (inr l) e = same_named name_of zs x y h.1 k l e

twice : {A : Type 0} (name_of : A → List ℕ) (name : List ℕ) (xs : List A) (k : ℕ) (d : A) → suc k < length xs → name ≡ name_of (get_or xs k d) → name ≡ name_of (get_or xs (suc k) d) → 2 ≤ times name_of name xs
unfolding times
twice name_of name [] k d l a b = absurd (omega arith)
twice name_of name (x ∷ []) k d l a b = absurd (omega arith)
twice name_of name (x ∷ y ∷ xs) zero d l a b =
    let one = hit_same name (name_of x) a in
    let two = hit_same name (name_of y) b in
    omega arith
twice name_of name (x ∷ y ∷ xs) (suc k) d l a b = (let rest = twice name_of name (y ∷ xs) k d (omega arith) a b in omega arith)

not_less : (o : Ordering) → is_lt (ordering_reverse o) ≡ false → (is_eq o ≡ true → ⊥) → o ≡ Less
not_less Less h k = refl
not_less Equal h k = absurd (k refl)
not_less Greater h k = absurd (cc)

rises : (a b : List ℕ) → is_lt (slice_cmp nat_cmp b a) ≡ false → (a ≡ b → ⊥) → slice_cmp nat_cmp a b ≡ Less
rises a b h k =
    let back : slice_cmp nat_cmp b a ≡ ordering_reverse (slice_cmp nat_cmp a b) = nat_list_cmp_total.antisymm b a in
    not_less (slice_cmp nat_cmp a b) (ap is_lt (sym back) ∙ h) (λ e. k ((bytes_eq-Decides a b).0 (sym (is_eq-slice_cmp a b) ∙ e)))

-- things that are sorted by name, and each of whose names is its own, are in order
pub sorted_in_order : {A : Type 0} (name_of : A → List ℕ) (xs : List A) → IsSortedByKey name_of (slice_cmp nat_cmp) xs → ((name : List ℕ) → times name_of name xs ≤ 1) → AreInOrder (map name_of xs)
sorted_in_order name_of xs sorted few = in_order name_of xs (length xs) (omega arith) (λ k d l.
    rises (name_of (get_or xs k d)) (name_of (get_or xs (k + 1) d)) (sorted k d (omega arith) l)
    (λ e. absurd (let two = twice name_of (name_of (get_or xs k d)) xs k d (omega arith) refl (rw (← add-one) e) in let one = few (name_of (get_or xs k d)) in omega arith)))
