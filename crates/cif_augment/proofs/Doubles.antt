-- Names that stand twice among names in byte order stand side by side.
use Rattle.std.specs.Prelude.{ℕ, zero, suc, ◌+◌, ◌<◌, ◌≤◌, nat_lt, ◌≡◌, Bool, true, false, ◌&&◌, ◌||◌, List, [], ◌∷◌, filter, length, get_or, bytes_eq, Some, None, refl, ◌⊎◌}
use Rattle.std.specs.List.Sorted.{IsPermutation, IsSortedBy}
use Rattle.std.proofs.Common.{arith, sym, ap, ◌∙◌, cond, inl, inr}
use Rattle.std.proofs.lemmas.Bool.{false≢true, lt-ltb}
use Rattle.std.proofs.lemmas.List.Folds.{list_any_at}
use Rattle.std.proofs.lemmas.List.Sorted.{sorted_far, sum_by-IsPermutation}
use Rattle.std.proofs.lemmas.List.Sums.{length-filter}
use Rattle.std.proofs.lemmas.Slice.Eq.{bytes_eq-Decides}
use borrow.Author.Tests.{ltb-true}
use Rattle.cif_defs.specs.declared.raw_module.Raw.{Raw}
use Rattle.cif_augment.specs.Refusals.{first_name, is_among, is_twice_among, standing_names}
use Rattle.cif_augment.specs.Taken.{is_repeated, is_seen_taken, is_taken}
use Rattle.cif_augment.proofs.FirstNames.{before, order, tied, itself, first_is, first_of_none, any_filter}
use Rattle.cif_augment.proofs.Named.{none_at}

-- ---- how often a name stands

abbrev times : List ℕ → List (List ℕ) → ℕ
times name xs = length (filter (bytes_eq name) xs)

times_cons : (name x : List ℕ) (xs : List (List ℕ)) (b : Bool) → bytes_eq name x ≡ b → times name (x ∷ xs) ≡ cond b 1 0 + times name xs
times_cons name x xs true e = ap (λ s. length (cond s (x ∷ filter (bytes_eq name) xs) (filter (bytes_eq name) xs))) e ∙ omega arith
times_cons name x xs false e = ap (λ s. length (cond s (x ∷ filter (bytes_eq name) xs) (filter (bytes_eq name) xs))) e ∙ omega arith

-- a place where a name stands
abbrev StandsAt : List ℕ → List (List ℕ) → Type 0
StandsAt name xs = (j : ℕ) × (j < length xs) × (get_or xs j [] ≡ name)

-- two places where it stands
abbrev StandsTwice : List ℕ → List (List ℕ) → Type 0
StandsTwice name xs = (i : ℕ) × (j : ℕ) × (i < j) × (j < length xs) × (get_or xs i [] ≡ name) × (get_or xs j [] ≡ name)

later : (name x : List ℕ) (xs : List (List ℕ)) → StandsAt name xs → StandsAt name (x ∷ xs)
later name x xs at = (suc at.0, (let l = at.1 in omega arith), at.2)

one_step : (name x : List ℕ) (xs : List (List ℕ)) (b : Bool) → bytes_eq name x ≡ b → 0 < times name (x ∷ xs) → (0 < times name xs → StandsAt name xs) → StandsAt name (x ∷ xs)
one_step name x xs true e h next = (0, omega arith, sym ((bytes_eq-Decides name x).0 e))
one_step name x xs false e h next = later name x xs (next (let k : times name (x ∷ xs) ≡ 0 + times name xs = times_cons name x xs false e in omega arith))

one_place : (name : List ℕ) (xs : List (List ℕ)) → 0 < times name xs → StandsAt name xs
one_place name [] h = absurd (omega arith)
one_place name (x ∷ xs) h = one_step name x xs (bytes_eq name x) refl h (one_place name xs)

two_step : (name x : List ℕ) (xs : List (List ℕ)) (b : Bool) → bytes_eq name x ≡ b → 1 < times name (x ∷ xs) → (1 < times name xs → StandsTwice name xs) → StandsTwice name (x ∷ xs)
two_step name x xs true e h next =
    let rest = one_place name xs (let k : times name (x ∷ xs) ≡ 1 + times name xs = times_cons name x xs true e in omega arith) in
    (0, suc rest.0, omega arith, (let l = rest.1 in omega arith), sym ((bytes_eq-Decides name x).0 e), rest.2)
two_step name x xs false e h next =
    let rest = next (let k : times name (x ∷ xs) ≡ 0 + times name xs = times_cons name x xs false e in omega arith) in
    (suc rest.0, suc rest.1, (let l = rest.2 in omega arith), (let l = rest.3 in omega arith), rest.4, rest.5)

two_places : (name : List ℕ) (xs : List (List ℕ)) → 1 < times name xs → StandsTwice name xs
two_places name [] h = absurd (omega arith)
two_places name (x ∷ xs) h = two_step name x xs (bytes_eq name x) refl h (two_places name xs)

at_least : (name x : List ℕ) (xs : List (List ℕ)) (b : Bool) → bytes_eq name x ≡ b → times name xs ≤ times name (x ∷ xs)
at_least name x xs true e = (let k : times name (x ∷ xs) ≡ 1 + times name xs = times_cons name x xs true e in omega arith)
at_least name x xs false e = (let k : times name (x ∷ xs) ≡ 0 + times name xs = times_cons name x xs false e in omega arith)

stands_once : (name : List ℕ) (xs : List (List ℕ)) (j : ℕ) → j < length xs → get_or xs j [] ≡ name → 0 < times name xs
stands_once name [] j l e = absurd (omega arith)
stands_once name (x ∷ xs) zero l e =
    (let same : bytes_eq name x ≡ true = ap (bytes_eq name) e ∙ itself name in
    let k : times name (x ∷ xs) ≡ 1 + times name xs = times_cons name x xs true same in omega arith)
stands_once name (x ∷ xs) (suc j) l e =
    (let k = at_least name x xs (bytes_eq name x) refl in let rest = stands_once name xs j (omega arith) e in omega arith)

stands_next : (name : List ℕ) (xs : List (List ℕ)) (j : ℕ) → suc j < length xs → get_or xs j [] ≡ name → get_or xs (suc j) [] ≡ name → 1 < times name xs
stands_next name [] j l e f = absurd (omega arith)
stands_next name (x ∷ xs) zero l e f =
    (let same : bytes_eq name x ≡ true = ap (bytes_eq name) e ∙ itself name in
    let k : times name (x ∷ xs) ≡ 1 + times name xs = times_cons name x xs true same in
    let rest : 0 < times name xs = stands_once name xs 0 (omega arith) f in omega arith)
stands_next name (x ∷ xs) (suc j) l e f =
    (let k = at_least name x xs (bytes_eq name x) refl in let rest = stands_next name xs j (omega arith) e f in omega arith)

-- ---- in another order

pub taken_alike : (raw : Raw) (xs ys : List (List ℕ)) → IsPermutation xs ys → (name : List ℕ) → is_taken raw ys name ≡ is_taken raw xs name
taken_alike raw xs ys same name =
    ap (λ n. is_among (standing_names raw) name || nat_lt 1 n)
    (length-filter (bytes_eq name) ys ∙ sum_by-IsPermutation (λ x. cond (bytes_eq name x) 1 0) xs ys same ∙ sym (length-filter (bytes_eq name) xs))

-- ---- in byte order

and_true : (p q : Bool) → p ≡ true → q ≡ true → (p && q) ≡ true
and_true p q e f = cc

and_both : (p q : Bool) → (p && q) ≡ true → (p ≡ true) × (q ≡ true)
and_both true q h = (refl, h)
and_both false q h = absurd (cc)

either : (p q : Bool) → (p || q) ≡ true → (p ≡ true) ⊎ (q ≡ true)
either true q h = inl refl
either false q h = inr h

or_first : (p q : Bool) → p ≡ true → (p || q) ≡ true
or_first p q e = ap (λ b. b || q) e

or_second : (p q : Bool) → q ≡ true → (p || q) ≡ true
or_second true q e = refl
or_second false q e = e

module _ (raw : Raw) (xs : List (List ℕ)) where
  taken_here : (k : ℕ) → k < length xs → is_seen_taken raw xs k ≡ true → is_taken raw xs (get_or xs k []) ≡ true
  taken_here k inside h = elim (either (is_among (standing_names raw) (get_or xs k [])) (is_repeated xs k) h) [
    | inl s ↦ or_first (is_among (standing_names raw) (get_or xs k [])) (is_twice_among xs (get_or xs k [])) s
    | inr r ↦ (let both = and_both (nat_lt (k + 1) (length xs)) (bytes_eq (get_or xs k []) (get_or xs (k + 1) [])) r in
        let below : k + 1 < length xs = ltb-true (k + 1) (length xs) both.0 in
        let next : get_or xs (suc k) [] ≡ get_or xs k [] = ap (λ j. get_or xs j []) (omega arith) ∙ sym ((bytes_eq-Decides (get_or xs k []) (get_or xs (k + 1) [])).0 both.1) in
        or_second (is_among (standing_names raw) (get_or xs k [])) (is_twice_among xs (get_or xs k []))
        (lt-ltb 1 (times (get_or xs k []) xs) (stands_next (get_or xs k []) xs k (omega arith) refl next)))
  ]

  -- a place with a name, at which it is seen that the name is taken
  abbrev SeenAt : List ℕ → Type 0
  SeenAt name = (i : ℕ) × (i < length xs) × (get_or xs i [] ≡ name) × (is_seen_taken raw xs i ≡ true)

  seen_twice : (name : List ℕ) → IsSortedBy before xs → StandsTwice name xs → SeenAt name
  seen_twice name up at =
      let i : ℕ = at.0 in
      let j : ℕ = at.1 in
      let low : i < j = at.2 in
      let inside : j < length xs = at.3 in
      let first : before (get_or xs (i + 1) []) (get_or xs i []) ≡ false = sorted_far before order xs up i (i + 1) [] (omega arith) (omega arith) in
      let last : before (get_or xs j []) (get_or xs (i + 1) []) ≡ false = sorted_far before order xs up (i + 1) j [] (omega arith) inside in
      let next : get_or xs i [] ≡ get_or xs (i + 1) [] =
      tied (get_or xs i []) (get_or xs (i + 1) []) (ap (λ a. before a (get_or xs (i + 1) [])) (at.4 ∙ sym at.5) ∙ last) first in (
        i,
        omega arith,
        at.4,
        or_second (is_among (standing_names raw) (get_or xs i [])) (is_repeated xs i)
            (and_true (nat_lt (i + 1) (length xs)) (bytes_eq (get_or xs i []) (get_or xs (i + 1) [])) (lt-ltb (i + 1) (length xs) (omega arith)) ((bytes_eq-Decides (get_or xs i []) (get_or xs (i + 1) [])).1 next)),
      )

  seen : (k : ℕ) → IsSortedBy before xs → k < length xs → is_taken raw xs (get_or xs k []) ≡ true → SeenAt (get_or xs k [])
  seen k up inside h = elim (either (is_among (standing_names raw) (get_or xs k [])) (is_twice_among xs (get_or xs k [])) h) [
    | inl s ↦ (k, inside, refl, or_first (is_among (standing_names raw) (get_or xs k [])) (is_repeated xs k) s)
    | inr t ↦ seen_twice (get_or xs k []) up (two_places (get_or xs k []) xs (ltb-true 1 (times (get_or xs k []) xs) t))
  ]

  side : (i k : ℕ) → (i < k) ⊎ (k ≤ i)
  side i k = search arith

  not_earlier : (k : ℕ) → IsSortedBy before xs → ((i : ℕ) → i < k → is_seen_taken raw xs i ≡ false) → (j : ℕ) → j < length xs → (b : Bool) → is_taken raw xs (get_or xs j []) ≡ b → (b && before (get_or xs j []) (get_or xs k [])) ≡ false
  not_earlier k up none j l false e = refl
  not_earlier k up none j l true e =
      let at = seen j up l e in
      elim (side at.0 k) [
        | inl low ↦ absurd (false≢true (sym (none at.0 low) ∙ at.3))
        | inr high ↦ ap (λ a. before a (get_or xs k [])) (sym at.2) ∙ sorted_far before order xs up k at.0 [] high at.1
      ]

  -- the first place at which it is seen has the first name that is taken
  pub first_taken : (k : ℕ) → IsSortedBy before xs → k < length xs → is_seen_taken raw xs k ≡ true → ((i : ℕ) → i < k → is_seen_taken raw xs i ≡ false) → first_name (filter (is_taken raw xs) xs) ≡ Some (get_or xs k [])
  first_taken k up inside here none =
      first_is (filter (is_taken raw xs) xs) (get_or xs k [])
      (any_filter (is_taken raw xs) (bytes_eq (get_or xs k [])) xs
      ∙ list_any_at (λ x. is_taken raw xs x && bytes_eq (get_or xs k []) x) xs k [] inside (and_true (is_taken raw xs (get_or xs k [])) (bytes_eq (get_or xs k []) (get_or xs k [])) (taken_here k inside here) (itself (get_or xs k []))))
      (any_filter (is_taken raw xs) (λ x. before x (get_or xs k [])) xs
      ∙ none_at (λ x. is_taken raw xs x && before x (get_or xs k [])) xs [] (λ j l. not_earlier k up none j l (is_taken raw xs (get_or xs j [])) refl))

  none_there : IsSortedBy before xs → ((i : ℕ) → i < length xs → is_seen_taken raw xs i ≡ false) → (j : ℕ) → j < length xs → (b : Bool) → is_taken raw xs (get_or xs j []) ≡ b → (b && true) ≡ false
  none_there up none j l false e = refl
  none_there up none j l true e = (let at = seen j up l e in absurd (false≢true (sym (none at.0 at.1) ∙ at.3)))

  pub none_taken : IsSortedBy before xs → ((i : ℕ) → i < length xs → is_seen_taken raw xs i ≡ false) → first_name (filter (is_taken raw xs) xs) ≡ None
  none_taken up none =
      first_of_none (filter (is_taken raw xs) xs)
      (any_filter (is_taken raw xs) (λ x. true) xs
      ∙ none_at (λ x. is_taken raw xs x && true) xs [] (λ j l. none_there up none j l (is_taken raw xs (get_or xs j [])) refl))
