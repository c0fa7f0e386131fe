-- Rings: cells of which each drives the one before it. Turned so that the least stands last, and reversed, they are a
-- loop.
use Rattle.std.specs.Prelude.{ℕ, suc, ◌+◌, ◌-◌, ◌<◌, ◌≤◌, ◌≡◌, true, false, List, [], ◌∷◌, ◌++◌, length, get_or, take, drop, reverse, eqb, refl}
use Rattle.std.proofs.Common.{arith, sym, ap, ◌∙◌, inl, inr}
use Rattle.std.specs.List.{IsDistinct}
use Rattle.std.proofs.lemmas.Bool.{cases_lt}
use Rattle.std.proofs.lemmas.Bool.Decides.{nat_tests}
use Rattle.std.proofs.lemmas.List.{get_or_default, get_or_append_left, get_or-append_right, get_or-take, get_or-drop, get_or-reverse, length-append, length-take, length-drop, length-reverse}
use Rattle.std.proofs.lemmas.Map.Keys.{IsDistinct-from_apart}
use Rattle.cif_defs.specs.Loop.{Drives, DrivesAlong, IsLoop, is_passing}
use Rattle.cif_defs.specs.Netlist.{Netlist, role_at}
use Rattle.cif_defs.proofs.Orders.{in_range}
use Rattle.cif_level.specs.Rings.{IsRing, IsUnwound}

pub same_drives : (n : Netlist) (c d c' d' : ℕ) → c' ≡ c → d' ≡ d → Drives n c d → Drives n c' d'
same_drives n c d c' d' e f v = rw (e, f) v

same_passing : (n : Netlist) (c c' : ℕ) → c' ≡ c → is_passing (role_at n c) ≡ true → is_passing (role_at n c') ≡ true
same_passing n c c' e h = ap (λ (x : ℕ). is_passing (role_at n x)) e ∙ h

-- ---- turned

abbrev turned : List ℕ → ℕ → List ℕ
turned xs m = drop m xs ++ take m xs

length-turned : (xs : List ℕ) (m : ℕ) → m ≤ length xs → length (turned xs m) ≡ length xs
length-turned xs m h = omega (arith, length-append (drop m xs) (take m xs), length-drop m xs, length-take m xs)

turned_front : (xs : List ℕ) (m i : ℕ) → i + m < length xs → get_or (turned xs m) i 0 ≡ get_or xs (i + m) 0
turned_front xs m i h =
    let inside : i < length (drop m xs) = omega (arith, length-drop m xs) in
    let order : m + i ≡ i + m = omega arith in
    get_or_append_left (drop m xs) (take m xs) 0 i inside ∙ get_or-drop m xs i 0 ∙ ap (λ k. get_or xs k 0) order

turned_back : (xs : List ℕ) (m i : ℕ) → m ≤ length xs → length xs ≤ i + m → i < length xs → get_or (turned xs m) i 0 ≡ get_or xs (i + m - length xs) 0
turned_back xs m i h l k =
    let front : length (drop m xs) ≡ length xs - m = length-drop m xs in
    let inside : i - (length xs - m) < m = omega arith in
    let order : i - (length xs - m) ≡ i + m - length xs = omega arith in
    get_or-append_right (drop m xs) (take m xs) (length xs - m) i 0 front (omega arith) ∙ get_or-take m xs (i - (length xs - m)) 0 inside ∙ ap (λ j. get_or xs j 0) order

-- a place of a turned list is one of the list's
turned_place : (xs : List ℕ) (m i : ℕ) → m ≤ length xs → i < length xs → (j : ℕ) × (j < length xs) × (get_or (turned xs m) i 0 ≡ get_or xs j 0)
turned_place xs m i h l = elim (cases_lt (i + m) (length xs)) [
  | inl q ↦ (i + m, q, turned_front xs m i q)
  | inr q ↦ (i + m - length xs, omega arith, turned_back xs m i h q l)
]

turned_apart : (n : Netlist) (xs : List ℕ) (m i j : ℕ) → IsRing n xs → m ≤ length xs → i < j → j < length xs → get_or (turned xs m) i 0 ≡ get_or (turned xs m) j 0 → ⊥
turned_apart n xs m i j r h l k e = elim (cases_lt (j + m) (length xs)) [
  | inl q ↦ (let p : i + m < length xs = omega arith in r.apart (i + m) (j + m) (omega arith) q (sym (turned_front xs m i p) ∙ e ∙ turned_front xs m j q))
  | inr q ↦ elim (cases_lt (i + m) (length xs)) [
    | inl p ↦ r.apart (j + m - length xs) (i + m) (omega arith) p (sym (turned_back xs m j h q k) ∙ sym e ∙ turned_front xs m i p)
    | inr p ↦ (let il : i < length xs = omega arith in r.apart (i + m - length xs) (j + m - length xs) (omega arith) (omega arith) (sym (turned_back xs m i h p il) ∙ e ∙ turned_back xs m j h q k))
  ]
]

turned_driven : (n : Netlist) (xs : List ℕ) (m i : ℕ) → IsRing n xs → m ≤ length xs → suc i < length xs → Drives n (get_or (turned xs m) (suc i) 0) (get_or (turned xs m) i 0)
turned_driven n xs m i r h l = elim (cases_lt (suc i + m) (length xs)) [
  | inl q ↦ (
      let p : i + m < length xs = omega arith in
      let step : suc i + m ≡ suc (i + m) = omega arith in
      same_drives n (get_or xs (suc (i + m)) 0) (get_or xs (i + m) 0) _ _ (turned_front xs m (suc i) q ∙ ap (λ k. get_or xs k 0) step) (turned_front xs m i p)
      (r.driven (i + m) (omega arith)))
  | inr q ↦ elim (cases_lt (i + m) (length xs)) [
    | inl p ↦ (
        let first : suc i + m - length xs ≡ 0 = omega arith in
        let last : i + m ≡ length xs - 1 = omega arith in
        same_drives n (get_or xs 0 0) (get_or xs (length xs - 1) 0) _ _ (turned_back xs m (suc i) h q l ∙ ap (λ k. get_or xs k 0) first) (turned_front xs m i p ∙ ap (λ k. get_or xs k 0) last) r.closed)
    | inr p ↦ (
        let il : i < length xs = omega arith in
        let step : suc i + m - length xs ≡ suc (i + m - length xs) = omega arith in
        same_drives n (get_or xs (suc (i + m - length xs)) 0) (get_or xs (i + m - length xs) 0) _ _ (turned_back xs m (suc i) h q l ∙ ap (λ k. get_or xs k 0) step) (turned_back xs m i h p il)
        (r.driven (i + m - length xs) (omega arith)))
  ]
]

-- the last place of a list turned at m is the one before m
turned_last : (xs : List ℕ) (m : ℕ) → 0 < m → m ≤ length xs → get_or (turned xs m) (length xs - 1) 0 ≡ get_or xs (m - 1) 0
turned_last xs m h l =
    let place : length xs - 1 + m - length xs ≡ m - 1 = omega arith in
    turned_back xs m (length xs - 1) l (omega arith) (omega arith) ∙ ap (λ k. get_or xs k 0) place

turned_closed : (n : Netlist) (xs : List ℕ) (m : ℕ) → IsRing n xs → 0 < m → m ≤ length xs → Drives n (get_or (turned xs m) 0 0) (get_or (turned xs m) (length xs - 1) 0)
turned_closed n xs m r h l = elim (cases_lt m (length xs)) [
  | inl q ↦ (
      let p : 0 + m < length xs = omega arith in
      let place : 0 + m ≡ suc (m - 1) = omega arith in
      same_drives n (get_or xs (suc (m - 1)) 0) (get_or xs (m - 1) 0) _ _ (turned_front xs m 0 p ∙ ap (λ k. get_or xs k 0) place) (turned_last xs m h l) (r.driven (m - 1) (omega arith)))
  | inr q ↦ (
      let p : length xs ≤ 0 + m = omega arith in
      let inside : 0 < length xs = r.not_empty in
      let place : 0 + m - length xs ≡ 0 = omega arith in
      let last : m - 1 ≡ length xs - 1 = omega arith in
      same_drives n (get_or xs 0 0) (get_or xs (length xs - 1) 0) _ _ (turned_back xs m 0 l p inside ∙ ap (λ k. get_or xs k 0) place) (turned_last xs m h l ∙ ap (λ k. get_or xs k 0) last) r.closed)
]

-- ---- reversed

along_from_places : (n : Netlist) (e c : ℕ) (cs : List ℕ) → ((i : ℕ) → i < length cs → Drives n (get_or (c ∷ cs) i 0) (get_or (c ∷ cs) (suc i) 0)) → Drives n (get_or (c ∷ cs) (length cs) 0) e → DrivesAlong n e (c ∷ cs)
along_from_places n e c [] h last = last
along_from_places n e c (d ∷ ds) h last = (h 0 (omega arith), along_from_places n e d ds (λ i l. h (suc i) (omega arith)) last)

drives_along : (n : Netlist) (e : ℕ) (zs : List ℕ) → 0 < length zs → ((i : ℕ) → suc i < length zs → Drives n (get_or zs i 0) (get_or zs (suc i) 0)) → Drives n (get_or zs (length zs - 1) 0) e → DrivesAlong n e zs
drives_along n e [] l h last = absurd (omega arith)
drives_along n e (c ∷ cs) l h last =
    let place : length (c ∷ cs) - 1 ≡ length cs = omega arith in
    along_from_places n e c cs (λ i k. h i (omega arith)) (same_drives n (get_or (c ∷ cs) (length (c ∷ cs) - 1) 0) e _ _ (ap (λ k. get_or (c ∷ cs) k 0) (sym place)) refl last)

apart_eqb : (x y : ℕ) → (x ≡ y → ⊥) → eqb x y ≡ false
apart_eqb x y h = grind (arith, nat_tests)

pub distinct_from_apart : (xs : List ℕ) → ((i j : ℕ) → i < j → j < length xs → get_or xs i 0 ≡ get_or xs j 0 → ⊥) → IsDistinct eqb xs
distinct_from_apart xs h = IsDistinct-from_apart eqb xs (λ i j d l k. apart_eqb (get_or xs i d) (get_or xs j d)
    (λ e. h i j l k (let il : i < length xs = omega arith in get_or_default xs i 0 d il ∙ e ∙ get_or_default xs j d 0 k)))

-- a ring turned at m and reversed, where what stands before m is the least
ring_is_loop : (n : Netlist) (xs : List ℕ) (m : ℕ) → IsRing n xs → 0 < m → m ≤ length xs → ((j : ℕ) → j < length xs → get_or xs (m - 1) 0 ≤ get_or xs j 0) → IsLoop n (reverse (turned xs m))
ring_is_loop n xs m r h l least =
    let ys : List ℕ = turned xs m in
    let zs : List ℕ = reverse (turned xs m) in
    let ys_long : length ys ≡ length xs = length-turned xs m l in
    let zs_long : length zs ≡ length xs = length-reverse ys ∙ ys_long in
    let full : 0 < length xs = r.not_empty in
    let at : (i : ℕ) → i < length xs → get_or zs i 0 ≡ get_or ys (length xs - 1 - i) 0 =
    λ i k. get_or-reverse ys i 0 (omega arith) ∙ ap (λ w. get_or ys (w - 1 - i) 0) ys_long in
    let first : get_or zs 0 0 ≡ get_or xs (m - 1) 0 =
    at 0 full ∙ ap (λ k. get_or ys k 0) (let e : length xs - 1 - 0 ≡ length xs - 1 = omega arith in e) ∙ turned_last xs m h l in
    let apart : (i j : ℕ) → i < j → j < length zs → get_or zs i 0 ≡ get_or zs j 0 → ⊥ =
    λ i j p q e. turned_apart n xs m (length xs - 1 - j) (length xs - 1 - i) r l (omega arith) (omega arith)
    (sym (at j (omega arith)) ∙ sym e ∙ at i (omega arith)) in
    record {
      not_empty = omega arith;
      in_range = λ i p.
          let place = turned_place xs m (length xs - 1 - i) l (omega arith) in
          in_range n (get_or zs i 0) (same_passing n (get_or xs place.0 0) _ (at i (omega arith) ∙ place.2) (r.passing place.0 place.1));
      least_first = λ i p q.
          let place = turned_place xs m (length xs - 1 - i) l (omega arith) in
          let same : get_or zs i 0 ≡ get_or xs place.0 0 = at i (omega arith) ∙ place.2 in
          let low : get_or xs (m - 1) 0 ≤ get_or xs place.0 0 = least place.0 place.1 in
          let other : get_or zs 0 0 ≡ get_or zs i 0 → ⊥ = apart 0 i p q in
          omega arith;
      distinct = distinct_from_apart zs apart;
      closed = drives_along n (get_or zs 0 0) zs (omega arith)
          (λ i p.
          let back : length xs - 1 - i ≡ suc (length xs - 1 - suc i) = omega arith in
          same_drives n (get_or ys (suc (length xs - 1 - suc i)) 0) (get_or ys (length xs - 1 - suc i) 0) _ _ (at i (omega arith) ∙ ap (λ k. get_or ys k 0) back) (at (suc i) (omega arith))
          (turned_driven n xs m (length xs - 1 - suc i) r l (omega arith)))
          (let end : length zs - 1 ≡ length xs - 1 = omega arith in
          let back : length xs - 1 - (length xs - 1) ≡ 0 = omega arith in
          let top : length xs - 1 - 0 ≡ length xs - 1 = omega arith in
          same_drives n (get_or ys 0 0) (get_or ys (length xs - 1) 0) _ _
          (ap (λ k. get_or zs k 0) end ∙ at (length xs - 1) (omega arith) ∙ ap (λ k. get_or ys k 0) back)
          (at 0 full ∙ ap (λ k. get_or ys k 0) top)
          (turned_closed n xs m r h l));
    }

pub unwound_loop : (n : Netlist) (xs cs : List ℕ) → IsRing n xs → IsUnwound xs cs → IsLoop n cs
unwound_loop n xs cs r u =
    let inside : u.least < length xs = u.in_range in
    let place : u.least + 1 - 1 ≡ u.least = omega arith in
    let low : (j : ℕ) → j < length xs → get_or xs (u.least + 1 - 1) 0 ≤ get_or xs j 0 = λ j k. rw place (u.is_least j k) in
    rw u.is (ring_is_loop n xs (u.least + 1) r (omega arith) (omega arith) low)
