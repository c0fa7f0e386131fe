-- Cells listed in the order of their keys are listed as a plan wants them.
use Rattle.std.specs.Prelude.{ℕ, suc, ◌+◌, ◌-◌, ◌<◌, ◌≤◌, ◌≡◌, ◌==◌, ◌⊎◌, Bool, true, false, nat_lt, List, [], ◌∷◌, ◌++◌, length, get_or, position, Option, Some, None, refl}
use Rattle.std.specs.List.{position_or_len}
use Rattle.std.proofs.Common.{arith, sym, ap, subst, ◌∙◌, cond, inl, inr, length-append}
use Rattle.std.proofs.lemmas.Bool.Decides.{nat_tests}
use Rattle.std.proofs.lemmas.List.{get_or_append_left, get_or-append_right}
use Rattle.std.proofs.lemmas.List.Recursion.{is_position_or_len}
use Rattle.cif_defs.specs.Loop.{IsLevelled, is_passing}
use Rattle.cif_defs.specs.Netlist.{Netlist, role_at}
use Rattle.cif_defs.specs.Words.{bit}
use Rattle.cif_defs.proofs.Orders.{has_place, place_at, place_in}
use Rattle.cif_defs.proofs.WordLaws.{le_or_lt}
use Rattle.cif_pieces.specs.Plans.{ComesBefore, Lists}
use Rattle.cif_pieces.specs.Plans.{place_in as place_of_plan}
use Rattle.cif_parts.specs.Listing.{IsListed, key}
use Rattle.cif_parts.specs.Marking.{AreMarks}

-- ---- a list with one more at its end

snoc_at : (xs : List ℕ) (x j : ℕ) → j < length (xs ++ x ∷ []) → ((j < length xs) × (get_or (xs ++ x ∷ []) j 0 ≡ get_or xs j 0)) ⊎ ((j ≡ length xs) × (get_or (xs ++ x ∷ []) j 0 ≡ x))
snoc_at xs x j h = elim (le_or_lt j (length xs)) [
  | inl l ↦ inl (l, get_or_append_left xs (x ∷ []) 0 j l)
  | inr l ↦ (let long : length (xs ++ x ∷ []) ≡ length xs + 1 = length-append xs (x ∷ []) in
      let e : j ≡ length xs = omega arith in
      let none : j - length xs ≡ 0 = omega arith in
      inr (e, get_or-append_right xs (x ∷ []) (length xs) j 0 refl l ∙ ap (λ (i : ℕ). get_or (x ∷ []) i 0) none))
]

last_at : (xs : List ℕ) (x : ℕ) → (length xs < length (xs ++ x ∷ [])) × (get_or (xs ++ x ∷ []) (length xs) 0 ≡ x)
last_at xs x =
    let long : length (xs ++ x ∷ []) ≡ length xs + 1 = length-append xs (x ∷ []) in
    let none : length xs - length xs ≡ 0 = omega arith in
    (omega arith, get_or-append_right xs (x ∷ []) (length xs) (length xs) 0 refl (omega arith) ∙ ap (λ (i : ℕ). get_or (x ∷ []) i 0) none)

first_at : (xs : List ℕ) (x i y : ℕ) → i < length xs → get_or xs i 0 ≡ y → (j : ℕ) × (j < length (xs ++ x ∷ [])) × (get_or (xs ++ x ∷ []) j 0 ≡ y)
first_at xs x i y l e = (let long : length (xs ++ x ∷ []) ≡ length xs + 1 = length-append xs (x ∷ []) in (i, omega arith, get_or_append_left xs (x ∷ []) 0 i l ∙ e))

-- ---- one more key

split_last : (i end : ℕ) → i < end + 1 → (i < end) ⊎ (i ≡ end)
split_last i end h = search arith

pub listed_none : (n : Netlist) (order : List ℕ) (marks : List Bool) → IsListed n order marks [] 0
listed_none n order marks = record {
  each = λ c m l. absurd (omega arith);
  only = λ i l. absurd (omega arith);
  below = λ i l. absurd (omega arith);
  rising = λ i j k l. absurd (omega arith);
}

listed_skip : (n : Netlist) (order : List ℕ) (marks : List Bool) (cells : List ℕ) (i : ℕ) → ((x : ℕ) → bit marks x ≡ true → key n order x ≡ i → ⊥) → IsListed n order marks cells i → IsListed n order marks cells (i + 1)
listed_skip n order marks cells i none h = record {
  each = λ c m l. elim (split_last (key n order c) i l) [ inl k ↦ h.each c m k | inr e ↦ absurd (none c m e) ];
  only = h.only;
  below = λ j l. (let z : key n order (get_or cells j 0) < i = h.below j l in omega arith);
  rising = h.rising;
}

listed_push : (n : Netlist) (order : List ℕ) (marks : List Bool) (cells : List ℕ) (i c : ℕ) → key n order c ≡ i → bit marks c ≡ true → ((x : ℕ) → bit marks x ≡ true → key n order x ≡ i → x ≡ c) → IsListed n order marks cells i → IsListed n order marks (cells ++ c ∷ []) (i + 1)
listed_push n order marks cells i c e m one h = record {
  each = λ x mx l. elim (split_last (key n order x) i l) [
    | inl k ↦ (let at = h.each x mx k in first_at cells c at.0 x at.1 at.2)
    | inr q ↦ (length cells, (last_at cells c).0, (last_at cells c).1 ∙ sym (one x mx q))
  ];
  only = λ j l. elim (snoc_at cells c j l) [
    | inl k ↦ ap (bit marks) k.1 ∙ h.only j k.0
    | inr k ↦ ap (bit marks) k.1 ∙ m
  ];
  below = λ j l. elim (snoc_at cells c j l) [
    | inl k ↦ (let z : key n order (get_or cells j 0) < i = h.below j k.0 in let y : key n order (get_or (cells ++ c ∷ []) j 0) ≡ key n order (get_or cells j 0) = ap (key n order) k.1 in omega arith)
    | inr k ↦ (let y : key n order (get_or (cells ++ c ∷ []) j 0) ≡ key n order c = ap (key n order) k.1 in omega arith)
  ];
  rising = λ a b f l. elim (snoc_at cells c b l) [
    | inl k ↦ (let first : get_or (cells ++ c ∷ []) a 0 ≡ get_or cells a 0 = get_or_append_left cells (c ∷ []) 0 a (let z : b < length cells = k.0 in omega arith) in
        let z : key n order (get_or cells a 0) < key n order (get_or cells b 0) = h.rising a b f k.0 in
        let x : key n order (get_or (cells ++ c ∷ []) a 0) ≡ key n order (get_or cells a 0) = ap (key n order) first in
        let y : key n order (get_or (cells ++ c ∷ []) b 0) ≡ key n order (get_or cells b 0) = ap (key n order) k.1 in
        omega arith)
    | inr k ↦ (let inside : a < length cells = (let z : b ≡ length cells = k.0 in omega arith) in
        let first : get_or (cells ++ c ∷ []) a 0 ≡ get_or cells a 0 = get_or_append_left cells (c ∷ []) 0 a inside in
        let z : key n order (get_or cells a 0) < i = h.below a inside in
        let x : key n order (get_or (cells ++ c ∷ []) a 0) ≡ key n order (get_or cells a 0) = ap (key n order) first in
        let y : key n order (get_or (cells ++ c ∷ []) b 0) ≡ key n order c = ap (key n order) k.1 in
        omega arith)
  ];
}

-- ---- keys

key_by : (t : Bool) (a b : ℕ) → t ≡ true → cond t a b ≡ a
key_by true a b e = refl
key_by false a b e = absurd (cc)

key_else : (t : Bool) (a b : ℕ) → t ≡ false → cond t a b ≡ b
key_else false a b e = refl
key_else true a b e = absurd (cc)

key_placed : (n : Netlist) (order : List ℕ) (c : ℕ) → is_passing (role_at n c) ≡ true → key n order c ≡ place_in order c
key_placed n order c h = key_by (is_passing (role_at n c)) _ _ h

key_other : (n : Netlist) (order : List ℕ) (c : ℕ) → is_passing (role_at n c) ≡ false → key n order c ≡ length order + c
key_other n order c h = key_else (is_passing (role_at n c)) _ _ h

either : (b : Bool) → (b ≡ true) ⊎ (b ≡ false)
either true = inl refl
either false = inr refl

-- a key inside the order is that of the cell at this place
at_key : (n : Netlist) (order : List ℕ) (x i : ℕ) → IsLevelled n order → i < length order → key n order x ≡ i → x ≡ get_or order i 0
at_key n order x i o l e = elim (either (is_passing (role_at n x))) [
  | inl p ↦ (let at = has_place n order x o p in sym at.1 ∙ ap (λ (j : ℕ). get_or order j 0) (sym (key_placed n order x p) ∙ e))
  | inr p ↦ absurd (let z : key n order x ≡ length order + x = key_other n order x p in omega arith)
]

-- one past the order is that of a cell that isn't passing
past_key : (n : Netlist) (order : List ℕ) (x c : ℕ) → IsLevelled n order → key n order x ≡ length order + c → (is_passing (role_at n x) ≡ false) × (x ≡ c)
past_key n order x c o e = elim (either (is_passing (role_at n x))) [
  | inl p ↦ absurd (let l : place_in order x < length order = (has_place n order x o p).0 in let z : key n order x ≡ place_in order x = key_placed n order x p in omega arith)
  | inr p ↦ (p, (let z : key n order x ≡ length order + x = key_other n order x p in omega arith))
]

key_at : (n : Netlist) (order : List ℕ) (i : ℕ) → IsLevelled n order → i < length order → key n order (get_or order i 0) ≡ i
key_at n order i o l = key_placed n order (get_or order i 0) (o.only_passing i l) ∙ place_at order i o.distinct l

-- ---- the order, place by place

pub placed_pushed : (n : Netlist) (order : List ℕ) (marks : List Bool) (cells new : List ℕ) (i c : ℕ) → IsLevelled n order → i < length order → c ≡ get_or order i 0 → bit marks c ≡ true → new ≡ cells ++ c ∷ [] → IsListed n order marks cells i → IsListed n order marks new (i + 1)
placed_pushed n order marks cells new i c o l at m e h =
    subst (λ (xs : List ℕ). IsListed n order marks xs (i + 1)) (sym e)
    (listed_push n order marks cells i c (ap (key n order) at ∙ key_at n order i o l) m (λ x mx q. at_key n order x i o l q ∙ sym at) h)

pub placed_skipped : (n : Netlist) (order : List ℕ) (marks : List Bool) (cells : List ℕ) (i c : ℕ) → IsLevelled n order → i < length order → c ≡ get_or order i 0 → bit marks c ≡ false → IsListed n order marks cells i → IsListed n order marks cells (i + 1)
placed_skipped n order marks cells i c o l at m h =
    listed_skip n order marks cells i (λ x mx q. absurd (let z : bit marks x ≡ false = ap (bit marks) (at_key n order x i o l q ∙ sym at) ∙ m in cc)) h

-- ---- the other cells, number by number

pub other_pushed : (n : Netlist) (order : List ℕ) (marks : List Bool) (cells new : List ℕ) (c : ℕ) → IsLevelled n order → is_passing (role_at n c) ≡ false → bit marks c ≡ true → new ≡ cells ++ c ∷ [] → IsListed n order marks cells (length order + c) → IsListed n order marks new (length order + (c + 1))
other_pushed n order marks cells new c o p m e h =
    let sum : (length order + c) + 1 ≡ length order + (c + 1) = omega arith in
    subst (λ (xs : List ℕ). IsListed n order marks xs (length order + (c + 1))) (sym e)
    (subst (λ (k : ℕ). IsListed n order marks (cells ++ c ∷ []) k) sum
    (listed_push n order marks cells (length order + c) c (key_other n order c p) m (λ x mx q. (past_key n order x c o q).1) h))

pub other_skipped : (n : Netlist) (order : List ℕ) (marks : List Bool) (cells : List ℕ) (c : ℕ) → IsLevelled n order → (is_passing (role_at n c) ≡ false → bit marks c ≡ false) → IsListed n order marks cells (length order + c) → IsListed n order marks cells (length order + (c + 1))
other_skipped n order marks cells c o p h =
    let sum : (length order + c) + 1 ≡ length order + (c + 1) = omega arith in
    subst (λ (k : ℕ). IsListed n order marks cells k) sum
    (listed_skip n order marks cells (length order + c) (λ x mx q. (let at = past_key n order x c o q in absurd (let z : bit marks c ≡ false = p (ap (λ (y : ℕ). is_passing (role_at n y)) (sym at.1) ∙ at.0) in let y : bit marks c ≡ true = ap (bit marks) (sym at.1) ∙ mx in cc))) h)

-- a step, whether the cell is wanted or not
pub placed_step : (n : Netlist) (order : List ℕ) (marks : List Bool) (cells new : List ℕ) (i c : ℕ) (t : Bool) → IsLevelled n order → i < length order → c ≡ get_or order i 0 → t ≡ bit marks c → (t ≡ true → new ≡ cells ++ c ∷ []) → (t ≡ false → new ≡ cells)
    → IsListed n order marks cells i → IsListed n order marks new (i + 1)
placed_step n order marks cells new i c true o l at e pushed kept h = placed_pushed n order marks cells new i c o l at (sym e) (pushed refl) h
placed_step n order marks cells new i c false o l at e pushed kept h = subst (λ (xs : List ℕ). IsListed n order marks xs (i + 1)) (sym (kept refl)) (placed_skipped n order marks cells i c o l at (sym e) h)

pub other_step : (n : Netlist) (order : List ℕ) (marks : List Bool) (cells new : List ℕ) (c : ℕ) (t : Bool) → IsLevelled n order → (t ≡ true → bit marks c ≡ true) → (t ≡ true → is_passing (role_at n c) ≡ false) → (t ≡ false → is_passing (role_at n c) ≡ false → bit marks c ≡ false)
    → (t ≡ true → new ≡ cells ++ c ∷ []) → (t ≡ false → new ≡ cells) → IsListed n order marks cells (length order + c) → IsListed n order marks new (length order + (c + 1))
other_step n order marks cells new c true o m p u pushed kept h = other_pushed n order marks cells new c o (p refl) (m refl) (pushed refl) h
other_step n order marks cells new c false o m p u pushed kept h = subst (λ (xs : List ℕ). IsListed n order marks xs (length order + (c + 1))) (sym (kept refl)) (other_skipped n order marks cells c o (u refl) h)

-- ---- as a plan wants them

place_is : (order : List ℕ) (c : ℕ) → place_in order c ≡ position_or_len (λ x. x == c) order
place_is order c = is_position_or_len (λ (xs : List ℕ). place_in xs c) (λ (x : ℕ). x == c) refl (λ x xs. ap (λ (k : ℕ). cond (x == c) 0 k) (one_more (place_in xs c))) order where
  one_more : (k : ℕ) → suc k ≡ 1 + k
  one_more k = omega arith

position_some : (p : ℕ → Bool) (xs : List ℕ) (i : ℕ) → i ≡ position_or_len p xs → i < length xs → position p xs ≡ Some i
position_some p xs i e l = ap (λ (t : Bool). cond t (Some (position_or_len p xs)) None) (test (position_or_len p xs) (length xs) (omega arith)) ∙ ap (λ (j : ℕ). Some j) (sym e) where
  test : (a b : ℕ) → a < b → nat_lt a b ≡ true
  test a b h = grind (arith, nat_tests)

position_none : (p : ℕ → Bool) (xs : List ℕ) (i : ℕ) → i ≡ position_or_len p xs → length xs ≤ i → position p xs ≡ None
position_none p xs i e l = ap (λ (t : Bool). cond t (Some (position_or_len p xs)) None) (test (position_or_len p xs) (length xs) (omega arith)) where
  test : (a b : ℕ) → b ≤ a → nat_lt a b ≡ false
  test a b h = grind (arith, nat_tests)

-- a cell that isn't passing has no place
no_place : (n : Netlist) (order : List ℕ) (c : ℕ) → IsLevelled n order → is_passing (role_at n c) ≡ false → length order ≤ place_in order c
no_place n order c o p = elim (le_or_lt (place_in order c) (length order)) [
  | inl l ↦ absurd (let e : get_or order (place_in order c) 0 ≡ c = Rattle.cif_defs.proofs.Orders.place_found order c l in
      let z : is_passing (role_at n c) ≡ true = ap (λ (y : ℕ). is_passing (role_at n y)) (sym e) ∙ o.only_passing (place_in order c) l in cc)
  | inr l ↦ l
]

comes_by : (a b : ℕ) (x y : Option ℕ) → ComesBefore a b x y → (x' y' : Option ℕ) → x' ≡ x → y' ≡ y → ComesBefore a b x' y'
comes_by a b x y h x' y' e f = rw (e, f) h

by_places : (a b i j : ℕ) (x y : Option ℕ) → x ≡ Some i → y ≡ Some j → ComesBefore a b x y → i < j
by_places a b i j x y e f h = comes_by a b x y h (Some i) (Some j) (sym e) (sym f)

-- of two cells of the order, the one that comes before stands before
pub comes_placed : (n : Netlist) (order : List ℕ) (a b : ℕ) → IsLevelled n order → is_passing (role_at n a) ≡ true → is_passing (role_at n b) ≡ true → ComesBefore a b (place_of_plan order a) (place_of_plan order b) → place_in order a < place_in order b
comes_placed n order a b o p q h =
    by_places a b (place_in order a) (place_in order b) _ _ (position_some (λ x. x == a) order (place_in order a) (place_is order a) (has_place n order a o p).0) (position_some (λ x. x == b) order (place_in order b) (place_is order b) (has_place n order b o q).0) h

comes_before : (n : Netlist) (order : List ℕ) (a b : ℕ) → IsLevelled n order → key n order a < key n order b → ComesBefore a b (place_of_plan order a) (place_of_plan order b)
comes_before n order a b o h = elim (either (is_passing (role_at n a))) [
  | inl p ↦ (let at = has_place n order a o p in let ka = key_placed n order a p in
      elim (either (is_passing (role_at n b))) [
        | inl q ↦ (let bt = has_place n order b o q in let kb = key_placed n order b q in
            comes_by a b (Some (place_in order a)) (Some (place_in order b)) (omega arith) _ _ (position_some (λ x. x == a) order (place_in order a) (place_is order a) at.0) (position_some (λ x. x == b) order (place_in order b) (place_is order b) bt.0))
        | inr q ↦ comes_by a b (Some (place_in order a)) None tt _ _ (position_some (λ x. x == a) order (place_in order a) (place_is order a) at.0) (position_none (λ x. x == b) order (place_in order b) (place_is order b) (no_place n order b o q))
      ])
  | inr p ↦ (let ka : key n order a ≡ length order + a = key_other n order a p in
      elim (either (is_passing (role_at n b))) [
        | inl q ↦ absurd (let bt : place_in order b < length order = (has_place n order b o q).0 in let kb : key n order b ≡ place_in order b = key_placed n order b q in omega arith)
        | inr q ↦ (let kb : key n order b ≡ length order + b = key_other n order b q in
            comes_by a b None None (omega arith) _ _ (position_none (λ x. x == a) order (place_in order a) (place_is order a) (no_place n order a o p)) (position_none (λ x. x == b) order (place_in order b) (place_is order b) (no_place n order b o q)))
      ])
]

key_below : (n : Netlist) (order : List ℕ) (c : ℕ) → IsLevelled n order → c < length n.cells → key n order c < length order + length n.cells
key_below n order c o l = elim (either (is_passing (role_at n c))) [
  | inl p ↦ (let at : place_in order c < length order = (has_place n order c o p).0 in let k : key n order c ≡ place_in order c = key_placed n order c p in omega arith)
  | inr p ↦ (let k : key n order c ≡ length order + c = key_other n order c p in omega arith)
]

marked_inside : (marks : List Bool) (c : ℕ) → bit marks c ≡ true → c < length marks
marked_inside marks c m = elim (le_or_lt c (length marks)) [
  | inl l ↦ l
  | inr l ↦ absurd (let z : bit marks c ≡ false = Rattle.std.proofs.lemmas.List.get_or_past marks c false l in cc)
]

pub lists : (n : Netlist) (order : List ℕ) (marks : List Bool) (cells : List ℕ) (P : ℕ → Type 0) → IsLevelled n order → AreMarks marks (length n.cells) P → IsListed n order marks cells (length order + length n.cells) → Lists order P cells
lists n order marks cells P o m h = record {
  has_each = λ c p. h.each c (m.each c p) (key_below n order c o (let l : c < length marks = marked_inside marks c (m.each c p) in let z : length marks ≡ length n.cells = m.as_many in omega arith));
  only = λ i l. m.only (get_or cells i 0) (h.only i l);
  ordered = λ i j f l. comes_before n order (get_or cells i 0) (get_or cells j 0) o (h.rising i j f l);
}

-- the first of them, up to the end of the order
pub lists_in_order : (n : Netlist) (order : List ℕ) (marks : List Bool) (cells : List ℕ) (P : ℕ → Type 0) → IsLevelled n order → AreMarks marks (length n.cells) P → IsListed n order marks cells (length order) → Lists order (λ c. P c × (is_passing (role_at n c) ≡ true)) cells
lists_in_order n order marks cells P o m h = record {
  has_each = λ c p. h.each c (m.each c p.0) (let at : place_in order c < length order = (has_place n order c o p.1).0 in let k : key n order c ≡ place_in order c = key_placed n order c p.1 in omega arith);
  only = λ i l. (m.only (get_or cells i 0) (h.only i l), passes_below (get_or cells i 0) (h.below i l));
  ordered = λ i j f l. comes_before n order (get_or cells i 0) (get_or cells j 0) o (h.rising i j f l);
} where
  passes_below : (c : ℕ) → key n order c < length order → is_passing (role_at n c) ≡ true
  passes_below c l = elim (either (is_passing (role_at n c))) [
    | inl p ↦ p
    | inr p ↦ absurd (let k : key n order c ≡ length order + c = key_other n order c p in omega arith)
  ]
