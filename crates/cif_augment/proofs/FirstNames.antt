-- The first of some names in byte order.
use Rattle.std.specs.Prelude.{ℕ, suc, ◌+◌, ◌-◌, ◌<◌, ◌≤◌, ◌≡◌, Bool, true, false, ◌&&◌, ◌||◌, List, [], ◌∷◌, ◌++◌, map, filter, drop, length, get_or, bytes_eq, Option, Some, None, refl}
use Rattle.std.specs.Cmp.{IsStrictWeakOrder}
use Rattle.std.specs.Cmp.Lexicographic.{slice_cmp}
use Rattle.std.specs.List.{list_any}
use Rattle.std.specs.List.Sorted.{IsSortedBy}
use Rattle.std.specs.Option.{option_map_or}
use Rattle.std.specs.Ordering.{nat_cmp, is_lt, is_eq, ordering_reverse}
use Rattle.std.specs.declared.cmp.Ordering.{Ordering}
use Rattle.std.specs.declared.cmp.Ordering.TheVariants.{Less, Equal, Greater}
use Rattle.std.proofs.Common.{arith, sym, ap, ◌∙◌, cond, subst}
use Rattle.std.proofs.lemmas.Bool.{false≢true}
use Rattle.std.proofs.lemmas.Cmp.{nat_list_cmp_total}
use Rattle.std.proofs.lemmas.List.{get_or-drop, get_or-map, length-map, length-drop, drop-map, drop_all}
use Rattle.std.proofs.lemmas.List.Sorted.{ranks_by, sorted_far}
use Rattle.std.proofs.lemmas.Map.Keys.{Less-from_sorted}
use Rattle.std.proofs.lemmas.Map.Text.{is_eq-slice_cmp}
use Rattle.std.proofs.lemmas.Slice.Eq.{bytes_eq-Decides}
use Rattle.std.proofs.Math.Seq.{drop-cons}
use Rattle.cif_defs.specs.Order.{AreInOrder}
use Rattle.cif_augment.specs.Refusals.{earlier, first_name}
use Rattle.cif_augment.specs.Taken.{earliest}
use Rattle.cif_augment.proofs.Named.{none_at}

-- whether a name comes before another
abbrev pub before : List ℕ → List ℕ → Bool
before a b = is_lt (slice_cmp nat_cmp a b)

pub order : IsStrictWeakOrder before
order = ranks_by nat_list_cmp_total (λ (x : List ℕ). x)

-- ---- two names

never_both : {G : Type 0} (b : Bool) → b ≡ true → b ≡ false → G
never_both b t f = absurd (cc)

-- no name comes before itself
not_itself : (a : List ℕ) (b : Bool) → before a a ≡ b → b ≡ false
not_itself a true e = sym e ∙ order.one_way a a e
not_itself a false e = refl

tied_by : (a b : List ℕ) (o : Ordering) → slice_cmp nat_cmp a b ≡ o → before a b ≡ false → before b a ≡ false → is_eq o ≡ true
tied_by a b Less e f g = absurd (false≢true (sym f ∙ ap is_lt e))
tied_by a b Equal e f g = refl
tied_by a b Greater e f g = absurd (false≢true (sym g ∙ ap is_lt (nat_list_cmp_total.antisymm b a ∙ ap ordering_reverse e)))

-- of two names one comes before the other, or they are one
pub tied : (a b : List ℕ) → before a b ≡ false → before b a ≡ false → a ≡ b
tied a b f g = (bytes_eq-Decides a b).0 (sym (is_eq-slice_cmp a b) ∙ tied_by a b (slice_cmp nat_cmp a b) refl f g)

pub itself : (a : List ℕ) → bytes_eq a a ≡ true
itself a = (bytes_eq-Decides a a).1 refl

-- ---- the earlier one

earlier_by : (p : Bool) (a b : List ℕ) → before b a ≡ p → earlier a b ≡ cond p b a
earlier_by p a b e = ap (λ s. cond s b a) e

earlier_assoc_by : (a b c : List ℕ) (p q r : Bool) → before b a ≡ p → before c b ≡ q → before c a ≡ r → earlier (earlier a b) c ≡ earlier a (earlier b c)
earlier_assoc_by a b c true true true e f g =
    ap (λ (x : List ℕ). earlier x c) (earlier_by true a b e) ∙ earlier_by true b c f ∙ sym (earlier_by true a c g) ∙ sym (ap (earlier a) (earlier_by true b c f))
earlier_assoc_by a b c true true false e f g = never_both (before c b) f (order.chain c a b g (order.one_way b a e))
earlier_assoc_by a b c true false r e f g =
    ap (λ (x : List ℕ). earlier x c) (earlier_by true a b e) ∙ earlier_by false b c f ∙ sym (earlier_by true a b e) ∙ sym (ap (earlier a) (earlier_by false b c f))
earlier_assoc_by a b c false true r e f g =
    ap (λ (x : List ℕ). earlier x c) (earlier_by false a b e) ∙ sym (ap (earlier a) (earlier_by true b c f))
earlier_assoc_by a b c false false true e f g = never_both (before c a) g (order.chain c b a f e)
earlier_assoc_by a b c false false false e f g =
    ap (λ (x : List ℕ). earlier x c) (earlier_by false a b e) ∙ earlier_by false a c g ∙ sym (earlier_by false a b e) ∙ sym (ap (earlier a) (earlier_by false b c f))

earlier_assoc : (a b c : List ℕ) → earlier (earlier a b) c ≡ earlier a (earlier b c)
earlier_assoc a b c = earlier_assoc_by a b c (before b a) (before c b) (before c a) refl refl refl

earliest_assoc : (a : List ℕ) (o u : Option (List ℕ)) → earliest (Some a) (earliest o u) ≡ earliest (earliest (Some a) o) u
earliest_assoc a None u = refl
earliest_assoc a (Some b) None = refl
earliest_assoc a (Some b) (Some c) = ap (λ (x : List ℕ). Some x) (sym (earlier_assoc a b c))

first_cons : (x : List ℕ) (xs : List (List ℕ)) (o : Option (List ℕ)) → first_name xs ≡ o → first_name (x ∷ xs) ≡ earliest (Some x) o
unfolding first_name
first_cons x xs None e = ap (λ (o : Option (List ℕ)). Some (option_map_or (earlier x) o x)) e
first_cons x xs (Some y) e = ap (λ (o : Option (List ℕ)). Some (option_map_or (earlier x) o x)) e

-- the first of two lists is the earlier of the first of each
pub first_append : (xs ys : List (List ℕ)) → first_name (xs ++ ys) ≡ earliest (first_name xs) (first_name ys)
unfolding first_name
first_append [] ys = refl
first_append (x ∷ xs) ys =
    first_cons x (xs ++ ys) (earliest (first_name xs) (first_name ys)) (first_append xs ys)
    ∙ earliest_assoc x (first_name xs) (first_name ys)
    ∙ ap (λ (o : Option (List ℕ)). earliest o (first_name ys)) (sym (first_cons x xs (first_name xs) refl))

-- ---- what the first one is

or_false : (p q : Bool) → (p || q) ≡ false → (p ≡ false) × (q ≡ false)
or_false true q h = absurd (cc)
or_false false q h = (refl, h)

both_false : (p q : Bool) → p ≡ false → q ≡ false → (p || q) ≡ false
both_false p q e f = cc

none_weaker : {A : Type 0} (p q : A → Bool) → ((x : A) → p x ≡ false → q x ≡ false) → (xs : List A) → list_any p xs ≡ false → list_any q xs ≡ false
none_weaker p q f [] h = refl
none_weaker p q f (x ∷ xs) h = (let both = or_false (p x) (list_any p xs) h in both_false (q x) (list_any q xs) (f x both.0) (none_weaker p q f xs both.1))

first_none : (xs : List (List ℕ)) → first_name xs ≡ None → xs ≡ []
unfolding first_name
first_none [] h = refl
first_none (x ∷ xs) h = absurd (cc)

abbrev IsLeast : List (List ℕ) → List ℕ → Type 0
IsLeast xs m = (list_any (bytes_eq m) xs ≡ true) × (list_any (λ y. before y m) xs ≡ false)

or_right : (p q : Bool) → q ≡ true → (p || q) ≡ true
or_right true q e = refl
or_right false q e = e

or_left : (p q : Bool) → p ≡ true → (p || q) ≡ true
or_left p q e = ap (λ b. b || q) e

least_cons : (x n : List ℕ) (xs : List (List ℕ)) (p : Bool) → before n x ≡ p → IsLeast xs n → IsLeast (x ∷ xs) (cond p n x)
least_cons x n xs true e h =
    (or_right (bytes_eq n x) (list_any (bytes_eq n) xs) h.0, both_false (before x n) (list_any (λ y. before y n) xs) (order.one_way n x e) h.1)
least_cons x n xs false e h = (
  or_left (bytes_eq x x) (list_any (bytes_eq x) xs) (itself x),
  both_false (before x x) (list_any (λ y. before y x) xs) (not_itself x (before x x) refl) (none_weaker (λ y. before y n) (λ y. before y x) (λ y f. order.chain y n x f e) xs h.1),
)

first_step : (x m : List ℕ) (xs : List (List ℕ)) (o : Option (List ℕ)) → first_name xs ≡ o → earliest (Some x) o ≡ Some m → ((n : List ℕ) → first_name xs ≡ Some n → IsLeast xs n) → IsLeast (x ∷ xs) m
first_step x m xs None e h next =
    let here : IsLeast (x ∷ []) x = (or_left (bytes_eq x x) false (itself x), both_false (before x x) false (not_itself x (before x x) refl) refl) in
    let same : x ≡ m = cc in
    subst (λ (y : List ℕ). IsLeast (x ∷ xs) y) same (subst (λ (ys : List (List ℕ)). IsLeast (x ∷ ys) x) (sym (first_none xs e)) here)
first_step x m xs (Some n) e h next =
    let same : earlier x n ≡ m = cc in
    subst (λ (y : List ℕ). IsLeast (x ∷ xs) y) same (least_cons x n xs (before n x) refl (next n e))

-- it is among them, and none comes before it
first_says : (xs : List (List ℕ)) (m : List ℕ) → first_name xs ≡ Some m → IsLeast xs m
unfolding first_name
first_says [] m h = absurd (cc)
first_says (x ∷ xs) m h = first_step x m xs (first_name xs) refl (sym (first_cons x xs (first_name xs) refl) ∙ h) (first_says xs)

-- what is among names passes no test that all fail
fails_step : (p : List ℕ → Bool) (m x : List ℕ) (xs : List (List ℕ)) (b : Bool) → bytes_eq m x ≡ b → (b || list_any (bytes_eq m) xs) ≡ true → p x ≡ false → (list_any (bytes_eq m) xs ≡ true → p m ≡ false) → p m ≡ false
fails_step p m x xs true e k one next = ap p ((bytes_eq-Decides m x).0 e) ∙ one
fails_step p m x xs false e k one next = next k

fails_among : (p : List ℕ → Bool) (xs : List (List ℕ)) (m : List ℕ) → list_any (bytes_eq m) xs ≡ true → list_any p xs ≡ false → p m ≡ false
fails_among p [] m h f = absurd (false≢true h)
fails_among p (x ∷ xs) m h f = (let both = or_false (p x) (list_any p xs) f in fails_step p m x xs (bytes_eq m x) refl h both.0 (λ k. fails_among p xs m k both.1))

first_by : (xs : List (List ℕ)) (m : List ℕ) (o : Option (List ℕ)) → first_name xs ≡ o → IsLeast xs m → first_name xs ≡ Some m
first_by xs m None e h = absurd (false≢true (sym (ap (list_any (bytes_eq m)) (first_none xs e)) ∙ h.0))
first_by xs m (Some n) e h =
    let other = first_says xs n e in
    e ∙ ap (λ (x : List ℕ). Some x) (tied n m (fails_among (λ y. before y m) xs n other.0 h.1) (fails_among (λ y. before y n) xs m h.0 other.1))

-- the name among them that none comes before
pub first_is : (xs : List (List ℕ)) (m : List ℕ) → list_any (bytes_eq m) xs ≡ true → list_any (λ y. before y m) xs ≡ false → first_name xs ≡ Some m
first_is xs m h f = first_by xs m (first_name xs) refl (h, f)

pub first_of_none : (xs : List (List ℕ)) → list_any (λ y. true) xs ≡ false → first_name xs ≡ None
unfolding first_name
first_of_none [] h = refl
first_of_none (x ∷ xs) h = absurd (false≢true (sym h))

-- two lists that pass each test alike have the same first name
pub same_first : (xs ys : List (List ℕ)) → ((p : List ℕ → Bool) → list_any p xs ≡ list_any p ys) → first_name xs ≡ first_name ys
same_first xs ys alike = by_first (first_name xs) refl where
  by_first : (o : Option (List ℕ)) → first_name xs ≡ o → first_name xs ≡ first_name ys
  by_first None e = e ∙ sym (first_of_none ys (sym (alike (λ y. true)) ∙ ap (list_any (λ y. true)) (first_none xs e)))
  by_first (Some m) e = (let h = first_says xs m e in e ∙ sym (first_is ys m (sym (alike (bytes_eq m)) ∙ h.0) (sym (alike (λ y. before y m)) ∙ h.1)))

-- ---- those that pass a test

any_step : {A : Type 0} (p q : A → Bool) (x : A) (xs : List A) (b : Bool) → list_any q (filter p xs) ≡ list_any (λ y. p y && q y) xs → list_any q (cond b (x ∷ filter p xs) (filter p xs)) ≡ (b && q x || list_any (λ y. p y && q y) xs)
any_step p q x xs true h = ap (λ b. q x || b) h
any_step p q x xs false h = h

-- whether one of those that pass a test passes another
pub any_filter : {A : Type 0} (p q : A → Bool) (xs : List A) → list_any q (filter p xs) ≡ list_any (λ x. p x && q x) xs
any_filter p q [] = refl
any_filter p q (x ∷ xs) = any_step p q x xs (p x) (any_filter p q xs)

none_filtered : {A : Type 0} (p q : A → Bool) (xs : List A) → list_any q xs ≡ false → list_any q (filter p xs) ≡ false
none_filtered p q xs h = any_filter p q xs ∙ none_weaker q (λ x. p x && q x) (λ x f. and_false (p x) (q x) f) xs h where
  and_false : (a b : Bool) → b ≡ false → (a && b) ≡ false
  and_false true b f = f
  and_false false b f = refl

-- ---- names in order

-- names in order, each once, are sorted
pub sorted_names : {A : Type 0} (name_of : A → List ℕ) (xs : List A) → AreInOrder (map name_of xs) → IsSortedBy before (map name_of xs)
sorted_names name_of xs h = λ k d low below.
    ap is_lt (nat_list_cmp_total.antisymm (get_or (map name_of xs) (k + 1) d) (get_or (map name_of xs) k d) ∙ ap ordering_reverse (Less-from_sorted (slice_cmp nat_cmp) (map name_of xs) k (k + 1) d h (omega arith) below))

-- where all before a place fail a test and the name at it passes, it is the first that passes
pub first_passing : (p : List ℕ → Bool) (xs : List (List ℕ)) (k : ℕ) → IsSortedBy before xs → k < length xs → filter p (drop k xs) ≡ filter p xs → p (get_or xs k []) ≡ true → first_name (filter p xs) ≡ Some (get_or xs k [])
first_passing p xs k up inside same pass =
    let x : List ℕ = get_or xs k [] in
    let kept : filter p xs ≡ x ∷ filter p (drop (suc k) xs) =
    sym same ∙ ap (filter p) (drop-cons xs k [] inside) ∙ ap (λ b. cond b (x ∷ filter p (drop (suc k) xs)) (filter p (drop (suc k) xs))) pass in
    let later : list_any (λ y. before y x) (drop (suc k) xs) ≡ false =
    none_at (λ y. before y x) (drop (suc k) xs) [] (λ j l.
    let long : length (drop (suc k) xs) ≡ length xs - suc k = length-drop (suc k) xs in
    ap (λ y. before y x) (get_or-drop (suc k) xs j []) ∙ sorted_far before order xs up k (suc k + j) [] (omega arith) (omega arith)) in
    ap first_name kept
    ∙ first_is (x ∷ filter p (drop (suc k) xs)) x (or_left (bytes_eq x x) (list_any (bytes_eq x) (filter p (drop (suc k) xs))) (itself x))
    (both_false (before x x) (list_any (λ y. before y x) (filter p (drop (suc k) xs))) (not_itself x (before x x) refl) (none_filtered p (λ y. before y x) (drop (suc k) xs) later))

-- ---- things that have names

pub first_named : {A : Type 0} (name_of : A → List ℕ) (p : List ℕ → Bool) (xs : List A) (k : ℕ) (x : A) → AreInOrder (map name_of xs) → k < length xs → x ≡ get_or xs k x → filter p (map name_of (drop k xs)) ≡ filter p (map name_of xs) → p (name_of x) ≡ true → Some (name_of x) ≡ first_name (filter p (map name_of xs))
first_named name_of p xs k x order inside is same pass =
    let here : get_or (map name_of xs) k [] ≡ name_of x = get_or-map name_of xs k x [] inside ∙ ap name_of (sym is) in
    let long : length (map name_of xs) ≡ length xs = length-map xs name_of in
    sym (first_passing p (map name_of xs) k (sorted_names name_of xs order) (omega arith) (ap (filter p) (drop-map name_of k xs) ∙ same) (ap p here ∙ pass) ∙ ap (λ (n : List ℕ). Some n) here)

pub none_named : {A : Type 0} (name_of : A → List ℕ) (p : List ℕ → Bool) (xs : List A) (k : ℕ) → length xs ≤ k → filter p (map name_of (drop k xs)) ≡ filter p (map name_of xs) → None ≡ first_name (filter p (map name_of xs))
unfolding first_name
none_named name_of p xs k past same = ap (λ ys. first_name (filter p (map name_of ys))) (sym (drop_all k xs past)) ∙ ap first_name same
