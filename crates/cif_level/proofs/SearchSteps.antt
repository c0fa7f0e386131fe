-- What each step of the search keeps.
use Rattle.std.specs.Prelude.{ℕ, suc, ◌+◌, ◌-◌, ◌<◌, ◌≡◌, ◌⊎◌, Bool, true, false, IsTrue, ◌↔◌, List, [], ◌∷◌, ◌++◌, length, get_or, set, drop, sum_by, Option, Some, refl}
use Rattle.std.proofs.Common.{arith, sym, ap, subst, ◌∙◌, inl, inr}
use Rattle.std.proofs.lemmas.Bool.{cases_lt, cases_eq}
use Rattle.std.proofs.lemmas.List.{get_or_append_left, get_or_push, get_or-set_same, get_or-set_other, get_or-drop, length_push, length-set, length-drop}
use Rattle.std.proofs.lemmas.List.Sums.{sum_by-set}
use Rattle.cif_defs.specs.Loop.{Drives, IsLevelled, IsLoop, is_passing}
use Rattle.cif_defs.specs.Netlist.{Netlist, IsWired, role_at}
use Rattle.cif_defs.proofs.Orders.{in_range}
use Rattle.cif_level.specs.declared.feeders.OperandPlace.{OperandPlace}
use Rattle.cif_level.specs.declared.feeders.Mark.{Mark}
use Rattle.cif_level.specs.declared.feeders.Mark.TheVariants.{Unseen, OnPath, Placed}
use Rattle.cif_level.specs.Feeding.{feeder_at}
use Rattle.cif_level.specs.Searching.{mark_of, first_place, place_of, mark_weight, AreBefore, AreAllPlaced, Follows, IsKept, IsLast}
use Rattle.cif_level.specs.Rings.{IsRing, IsClosedBy}
use Rattle.cif_level.proofs.Driving.{HasOneOutput, drives_feeder, feeder_drives}
use Rattle.cif_level.proofs.RingLaws.{same_drives, distinct_from_apart, unwound_loop}

-- ---- lists with one more number

push_cases : (xs : List ℕ) (y i : ℕ) → i < length (xs ++ y ∷ []) → ((i < length xs) × (get_or (xs ++ y ∷ []) i 0 ≡ get_or xs i 0)) ⊎ ((i ≡ length xs) × (get_or (xs ++ y ∷ []) i 0 ≡ y))
push_cases xs y i h =
    let long : length (xs ++ y ∷ []) ≡ length xs + 1 = length_push xs y in
    elim (cases_lt i (length xs)) [
      | inl l ↦ inl (l, get_or_append_left xs (y ∷ []) 0 i l)
      | inr l ↦ (let e : i ≡ length xs = omega arith in inr (e, get_or_push xs y 0 i (sym e)))
    ]

push_left : (xs : List ℕ) (y i : ℕ) → i < length xs → get_or (xs ++ y ∷ []) i 0 ≡ get_or xs i 0
push_left xs y i l = get_or_append_left xs (y ∷ []) 0 i l

push_last : (xs : List ℕ) (y : ℕ) → get_or (xs ++ y ∷ []) (length xs) 0 ≡ y
push_last xs y = get_or_push xs y 0 (length xs) refl

push_below : (xs : List ℕ) (y i : ℕ) → i < length xs → i < length (xs ++ y ∷ [])
push_below xs y i l = omega (arith, length_push xs y)

push_end : (xs : List ℕ) (y : ℕ) → length xs < length (xs ++ y ∷ [])
push_end xs y = omega (arith, length_push xs y)

-- ---- marks with one set

set_cases : (marks : List Mark) (c x : ℕ) (k : Mark) → c < length marks → ((x ≡ c) × (mark_of (set marks c k) x ≡ k)) ⊎ ((x ≡ c → ⊥) × (mark_of (set marks c k) x ≡ mark_of marks x))
set_cases marks c x k l = elim (cases_eq x c) [
  | inl e ↦ inl (e, ap (mark_of (set marks c k)) e ∙ get_or-set_same marks c k Unseen l)
  | inr ne ↦ inr (ne, get_or-set_other marks c x k Unseen ne)
]

-- what is placed stays so, where a cell that isn't placed gets another mark
stays_placed : (marks : List Mark) (c x : ℕ) (k : Mark) → c < length marks → (mark_of marks c ≡ Placed → ⊥) → mark_of marks x ≡ Placed → mark_of (set marks c k) x ≡ Placed
stays_placed marks c x k l ne h = elim (set_cases marks c x k l) [
  | inl p ↦ absurd (ne (ap (mark_of marks) (sym p.0) ∙ h))
  | inr p ↦ p.1 ∙ h
]

-- and where a cell is placed
placed_stays : (marks : List Mark) (c x : ℕ) → c < length marks → mark_of marks x ≡ Placed → mark_of (set marks c Placed) x ≡ Placed
placed_stays marks c x l h = elim (set_cases marks c x Placed l) [
  | inl p ↦ p.1
  | inr p ↦ p.1 ∙ h
]

still_before : (f : ℕ → ℕ → Option ℕ) (old new : List Mark) (at : OperandPlace) → ((x : ℕ) → mark_of old x ≡ Placed → mark_of new x ≡ Placed) → AreBefore f old at → AreBefore f new at
still_before f old new at h b = record {
  ports = λ p i x l e. h x (b.ports p i x l e);
  bits = λ i x l e. h x (b.bits i x l e);
}

-- ---- the place of a cell is moved on

looked : (n : Netlist) (marks : List Mark) (places : List OperandPlace) (path order : List ℕ) (c : ℕ) (at : OperandPlace) → IsKept n marks places path order → c < length n.cells → AreBefore (feeder_at n c) marks at
    → IsKept n marks (set places c at) path order
looked n marks places path order c at s l b = record {
  sized = s.sized;
  path_marked = s.path_marked;
  order_marked = s.order_marked;
  marked_path = s.marked_path;
  marked_order = s.marked_order;
  path_apart = s.path_apart;
  order_apart = s.order_apart;
  path_passing = s.path_passing;
  order_passing = s.order_passing;
  path_driven = s.path_driven;
  order_settled = s.order_settled;
  places_sized = length-set places c at ∙ s.places_sized;
  looked = λ d. elim (cases_eq d c) [
    | inl e ↦ (
        let here : place_of (set places c at) d ≡ at = ap (place_of (set places c at)) e ∙ get_or-set_same places c at first_place (let long : length places ≡ length n.cells = s.places_sized in omega arith) in
        let there : AreBefore (feeder_at n d) marks at = subst (λ (x : ℕ). AreBefore (feeder_at n x) marks at) (sym e) b in
        subst (λ (w : OperandPlace). AreBefore (feeder_at n d) marks w) (sym here) there)
    | inr ne ↦ (
        let same : place_of (set places c at) d ≡ place_of places d = get_or-set_other places c d at first_place ne in
        subst (λ (w : OperandPlace). AreBefore (feeder_at n d) marks w) (sym same) (s.looked d))
  ];
}

-- ---- a cell is put on the path

entered : (n : Netlist) (marks : List Mark) (places : List OperandPlace) (path order : List ℕ) (c : ℕ) → IsKept n marks places path order → mark_of marks c ≡ Unseen → is_passing (role_at n c) ≡ true
    → (0 < length path → Drives n c (get_or path (length path - 1) 0)) → IsKept n (set marks c OnPath) places (path ++ c ∷ []) order
entered n marks places path order c s u p v =
    let long : length marks ≡ length n.cells = s.sized in
    let known : c < length n.cells = in_range n c p in
    let stands : c < length marks = omega arith in
    let unplaced : mark_of marks c ≡ Placed → ⊥ = λ h. absurd (cc) in
    let stay : (x : ℕ) → mark_of marks x ≡ Placed → mark_of (set marks c OnPath) x ≡ Placed = λ x h. stays_placed marks c x OnPath stands unplaced h in
    record {
      sized = length-set marks c OnPath ∙ s.sized;
      places_sized = s.places_sized;
      order_apart = s.order_apart;
      order_passing = s.order_passing;
      order_settled = s.order_settled;
      looked = λ d. still_before (feeder_at n d) marks (set marks c OnPath) (place_of places d) stay (s.looked d);
      path_marked = λ i l. elim (push_cases path c i l) [
        | inl q ↦ (
            let was : mark_of marks (get_or path i 0) ≡ OnPath = s.path_marked i q.0 in
            elim (set_cases marks c (get_or path i 0) OnPath stands) [
              | inl r ↦ ap (mark_of (set marks c OnPath)) q.1 ∙ r.1
              | inr r ↦ ap (mark_of (set marks c OnPath)) q.1 ∙ r.1 ∙ was
            ])
        | inr q ↦ ap (mark_of (set marks c OnPath)) q.1 ∙ get_or-set_same marks c OnPath Unseen stands
      ];
      order_marked = λ i l. stay (get_or order i 0) (s.order_marked i l);
      marked_path = λ x h. elim (set_cases marks c x OnPath stands) [
        | inl r ↦ (length path, push_end path c, push_last path c ∙ sym r.0)
        | inr r ↦ (let at = s.marked_path x (sym r.1 ∙ h) in (at.0, push_below path c at.0 at.1, push_left path c at.0 at.1 ∙ at.2))
      ];
      marked_order = λ x h. elim (set_cases marks c x OnPath stands) [
        | inl r ↦ absurd (let q : mark_of (set marks c OnPath) x ≡ OnPath = r.1 in cc)
        | inr r ↦ s.marked_order x (sym r.1 ∙ h)
      ];
      path_apart = λ i j l m e. elim (push_cases path c j m) [
        | inl q ↦ (let il : i < length path = omega arith in s.path_apart i j l q.0 (sym (push_left path c i il) ∙ e ∙ q.1))
        | inr q ↦ (
            let il : i < length path = omega arith in
            let same : get_or path i 0 ≡ c = sym (push_left path c i il) ∙ e ∙ q.1 in
            let was : mark_of marks (get_or path i 0) ≡ OnPath = s.path_marked i il in
            let now : mark_of marks (get_or path i 0) ≡ Unseen = ap (mark_of marks) same ∙ u in
            absurd (cc))
      ];
      path_passing = λ i l. elim (push_cases path c i l) [
        | inl q ↦ ap (λ (x : ℕ). is_passing (role_at n x)) q.1 ∙ s.path_passing i q.0
        | inr q ↦ ap (λ (x : ℕ). is_passing (role_at n x)) q.1 ∙ p
      ];
      path_driven = λ i l. elim (push_cases path c (suc i) l) [
        | inl q ↦ (let il : i < length path = omega (arith, q.0) in same_drives n (get_or path (suc i) 0) (get_or path i 0) _ _ q.1 (push_left path c i il) (s.path_driven i q.0))
        | inr q ↦ (
            let e : suc i ≡ length path = q.0 in
            let il : i < length path = omega arith in
            let last : i ≡ length path - 1 = omega arith in
            same_drives n c (get_or path (length path - 1) 0) _ _ q.1 (push_left path c i il ∙ ap (λ k. get_or path k 0) last) (v (omega arith)))
      ];
    }

-- ---- the last cell of the path is placed

placed : (n : Netlist) (marks : List Mark) (places : List OperandPlace) (rest order : List ℕ) (c : ℕ) → IsKept n marks places (rest ++ c ∷ []) order → AreAllPlaced (feeder_at n c) marks
    → IsKept n (set marks c Placed) places rest (order ++ c ∷ [])
placed n marks places rest order c s a =
    let long : length marks ≡ length n.cells = s.sized in
    let on : mark_of marks c ≡ OnPath = ap (mark_of marks) (sym (push_last rest c)) ∙ s.path_marked (length rest) (push_end rest c) in
    let passes : is_passing (role_at n c) ≡ true = ap (λ (x : ℕ). is_passing (role_at n x)) (sym (push_last rest c)) ∙ s.path_passing (length rest) (push_end rest c) in
    let known : c < length n.cells = in_range n c passes in
    let stands : c < length marks = omega arith in
    let stay : (x : ℕ) → mark_of marks x ≡ Placed → mark_of (set marks c Placed) x ≡ Placed = λ x h. placed_stays marks c x stands h in
    let other : (i : ℕ) → i < length rest → get_or rest i 0 ≡ c → ⊥ = λ i l e. s.path_apart i (length rest) l (push_end rest c) (push_left rest c i l ∙ e ∙ sym (push_last rest c)) in
    record {
      sized = length-set marks c Placed ∙ s.sized;
      places_sized = s.places_sized;
      looked = λ d. still_before (feeder_at n d) marks (set marks c Placed) (place_of places d) stay (s.looked d);
      path_marked = λ i l. elim (set_cases marks c (get_or rest i 0) Placed stands) [
        | inl r ↦ absurd (other i l r.0)
        | inr r ↦ r.1 ∙ ap (mark_of marks) (sym (push_left rest c i l)) ∙ s.path_marked i (push_below rest c i l)
      ];
      order_marked = λ i l. elim (push_cases order c i l) [
        | inl q ↦ ap (mark_of (set marks c Placed)) q.1 ∙ stay (get_or order i 0) (s.order_marked i q.0)
        | inr q ↦ ap (mark_of (set marks c Placed)) q.1 ∙ get_or-set_same marks c Placed Unseen stands
      ];
      marked_path = λ x h. elim (set_cases marks c x Placed stands) [
        | inl r ↦ absurd (let q : mark_of (set marks c Placed) x ≡ Placed = r.1 in cc)
        | inr r ↦ (
            let at = s.marked_path x (sym r.1 ∙ h) in
            elim (push_cases rest c at.0 at.1) [
              | inl q ↦ (at.0, q.0, sym q.1 ∙ at.2)
              | inr q ↦ absurd (r.0 (sym at.2 ∙ q.1))
            ])
      ];
      marked_order = λ x h. elim (set_cases marks c x Placed stands) [
        | inl r ↦ (length order, push_end order c, push_last order c ∙ sym r.0)
        | inr r ↦ (let at = s.marked_order x (sym r.1 ∙ h) in (at.0, push_below order c at.0 at.1, push_left order c at.0 at.1 ∙ at.2))
      ];
      path_apart = λ i j l m e. let il : i < length rest = omega arith in s.path_apart i j l (push_below rest c j m) (push_left rest c i il ∙ e ∙ sym (push_left rest c j m));
      order_apart = λ i j l m e. elim (push_cases order c j m) [
        | inl q ↦ (let jl : j < length order = q.0 in let il : i < length order = omega arith in s.order_apart i j l jl (sym (push_left order c i il) ∙ e ∙ q.1))
        | inr q ↦ (
            let je : j ≡ length order = q.0 in
            let il : i < length order = omega arith in
            let same : get_or order i 0 ≡ c = sym (push_left order c i il) ∙ e ∙ q.1 in
            let was : mark_of marks (get_or order i 0) ≡ Placed = s.order_marked i il in
            let now : mark_of marks (get_or order i 0) ≡ OnPath = ap (mark_of marks) same ∙ on in
            absurd (cc))
      ];
      path_passing = λ i l. ap (λ (x : ℕ). is_passing (role_at n x)) (sym (push_left rest c i l)) ∙ s.path_passing i (push_below rest c i l);
      order_passing = λ i l. elim (push_cases order c i l) [
        | inl q ↦ ap (λ (x : ℕ). is_passing (role_at n x)) q.1 ∙ s.order_passing i q.0
        | inr q ↦ ap (λ (x : ℕ). is_passing (role_at n x)) q.1 ∙ passes
      ];
      path_driven = λ i l.
          let il : i < length rest = omega arith in
          same_drives n (get_or (rest ++ c ∷ []) (suc i) 0) (get_or (rest ++ c ∷ []) i 0) _ _ (sym (push_left rest c (suc i) l)) (sym (push_left rest c i il)) (s.path_driven i (push_below rest c (suc i) l));
      order_settled = λ j p i x l h. elim (push_cases order c j l) [
        | inl q ↦ (
            let jl : j < length order = q.0 in
            let at = s.order_settled j p i x jl (ap (λ (d : ℕ). feeder_at n d p i) (sym q.1) ∙ h) in
            let below : at.0 < j = at.1 in
            let inside : at.0 < length order = omega arith in
            (at.0, below, push_left order c at.0 inside ∙ at.2))
        | inr q ↦ (
            let je : j ≡ length order = q.0 in
            let at = s.marked_order x (a.placed p i x (ap (λ (d : ℕ). feeder_at n d p i) (sym q.1) ∙ h)) in
            let below : at.0 < length order = at.1 in
            (at.0, omega arith, push_left order c at.0 below ∙ at.2))
      ];
    }

-- ---- work and marks

less_by_mark : (marks : List Mark) (c : ℕ) (k : Mark) → c < length marks → mark_weight k < mark_weight (mark_of marks c) → sum_by mark_weight (set marks c k) < sum_by mark_weight marks
less_by_mark marks c k l h = omega (arith, sum_by-set mark_weight marks c k Unseen l)

follows_set : (marks : List Mark) (c : ℕ) (k : Mark) → c < length marks → (mark_of marks c ≡ Placed → ⊥) → (k ≡ Unseen → ⊥) → Follows marks (set marks c k)
follows_set marks c k l ne nu = record {
  placed = λ x h. stays_placed marks c x k l ne h;
  seen = λ x h. elim (set_cases marks c x k l) [
    | inl r ↦ absurd (nu (sym r.1 ∙ h))
    | inr r ↦ sym r.1 ∙ h
  ];
}

-- ---- the end

pub kept_levelled : (n : Netlist) (marks : List Mark) (places : List OperandPlace) (path order : List ℕ) → IsWired n → HasOneOutput n → IsKept n marks places path order
    → ((c : ℕ) → c < length n.cells → is_passing (role_at n c) ≡ true → mark_of marks c ≡ Placed) → IsLevelled n order
kept_levelled n marks places path order w o s all = record {
  has_each = λ c l p. s.marked_order c (all c l p);
  only_passing = s.order_passing;
  in_range = λ i l. in_range n (get_or order i 0) (s.order_passing i l);
  distinct = distinct_from_apart order s.order_apart;
  after_drivers = λ i j l m v.
      let at = s.order_settled j v.operand v.to (get_or order i 0) m (drives_feeder n (get_or order i 0) (get_or order j 0) v w o) in
      let below : at.0 < j = at.1 in
      elim (cases_lt i j) [
        | inl h ↦ h
        | inr h ↦ absurd (s.order_apart at.0 i (omega arith) l at.2)
      ];
}

-- a part of the path from cell x on, where x drives the last cell
path_ring : (n : Netlist) (marks : List Mark) (places : List OperandPlace) (path order : List ℕ) (x k : ℕ) → IsKept n marks places path order → k < length path → get_or path k 0 ≡ x
    → Drives n x (get_or path (length path - 1) 0) → IsRing n (drop k path)
path_ring n marks places path order x k s l e v =
    let long : length (drop k path) ≡ length path - k = length-drop k path in
    let at : (i : ℕ) → get_or (drop k path) i 0 ≡ get_or path (k + i) 0 = λ i. get_or-drop k path i 0 in
    record {
      not_empty = omega arith;
      passing = λ i m. ap (λ (y : ℕ). is_passing (role_at n y)) (at i) ∙ s.path_passing (k + i) (omega arith);
      apart = λ i j m q f. s.path_apart (k + i) (k + j) (omega arith) (omega arith) (sym (at i) ∙ f ∙ at j);
      driven = λ i m.
          let step : k + suc i ≡ suc (k + i) = omega arith in
          same_drives n (get_or path (suc (k + i)) 0) (get_or path (k + i) 0) _ _ (at (suc i) ∙ ap (λ j. get_or path j 0) step) (at i) (s.path_driven (k + i) (omega arith));
      closed =
          let first : k + 0 ≡ k = omega arith in
          let last : k + (length (drop k path) - 1) ≡ length path - 1 = omega arith in
          same_drives n x (get_or path (length path - 1) 0) _ _ (at 0 ∙ ap (λ j. get_or path j 0) first ∙ e) (at (length (drop k path) - 1) ∙ ap (λ j. get_or path j 0) last) v;
    }

-- ---- the steps of the code, by what each leaves

pub cell_known : (n : Netlist) (marks : List Mark) (places : List OperandPlace) (path order : List ℕ) (c : ℕ) → IsKept n marks places path order → IsLast path c → c < length n.cells
cell_known n marks places path order c s l =
    let full : 0 < length path = l.not_empty in
    in_range n c (ap (λ (x : ℕ). is_passing (role_at n x)) (sym l.is) ∙ s.path_passing (length path - 1) (omega arith))

pub feed_known : (n : Netlist) (d p i x : ℕ) → IsWired n → feeder_at n d p i ≡ Some x → x < length n.cells
feed_known n d p i x w h = in_range n x (feeder_drives n d p i x w h).passing

mark_left : (k : Mark) → (k ≡ OnPath → ⊥) → (k ≡ Placed → ⊥) → k ≡ Unseen
mark_left Unseen h q = refl
mark_left OnPath h q = absurd (h refl)
mark_left Placed h q = absurd (q refl)

same_kept : (n : Netlist) (marks marks' : List Mark) (places places' : List OperandPlace) (path path' order order' : List ℕ) → marks' ≡ marks → places' ≡ places → path' ≡ path → order' ≡ order → IsKept n marks places path order
    → IsKept n marks' places' path' order'
same_kept n marks marks' places places' path path' order order' e f g h s = rw (e, f, g, h) s

pub followed : (n : Netlist) (marks marks' : List Mark) (places places' : List OperandPlace) (path path' order order' : List ℕ) (cell x : ℕ) (at : OperandPlace) → IsWired n → IsKept n marks places path order → IsLast path cell
    → AreBefore (feeder_at n cell) marks at → feeder_at n cell at.port at.index ≡ Some x → (mark_of marks x ≡ OnPath → ⊥) → (mark_of marks x ≡ Placed → ⊥)
    → marks' ≡ set marks x OnPath → places' ≡ set places cell at → path' ≡ path ++ x ∷ [] → order' ≡ order → IsKept n marks' places' path' order'
followed n marks marks' places places' path path' order order' cell x at w s l b f no_loop unplaced e g h k =
    let v : Drives n x cell = feeder_drives n cell at.port at.index x w f in
    same_kept n (set marks x OnPath) marks' (set places cell at) places' (path ++ x ∷ []) path' order order' e g h k
    (entered n marks (set places cell at) path order x (looked n marks places path order cell at s (cell_known n marks places path order cell s l) b)
    (mark_left (mark_of marks x) no_loop unplaced) v.passing (λ full. same_drives n x cell _ _ refl l.is v))

loop_rings : (n : Netlist) (marks : List Mark) (places : List OperandPlace) (path order : List ℕ) (cell x p i k : ℕ) → IsWired n → IsKept n marks places path order → IsLast path cell → feeder_at n cell p i ≡ Some x
    → k < length path → get_or path k 0 ≡ x → IsRing n (drop k path)
loop_rings n marks places path order cell x p i k w s l f inside e =
    path_ring n marks places path order x k s inside e (same_drives n x cell _ _ refl l.is (feeder_drives n cell p i x w f))

pub finished : (n : Netlist) (marks marks' : List Mark) (places places' : List OperandPlace) (path path' order order' : List ℕ) (c : ℕ) → IsKept n marks places path order → AreAllPlaced (feeder_at n c) marks
    → marks' ≡ set marks c Placed → places' ≡ places → path ≡ path' ++ c ∷ [] → order' ≡ order ++ c ∷ [] → IsKept n marks' places' path' order'
finished n marks marks' places places' path path' order order' c s a e f g h =
    same_kept n (set marks c Placed) marks' places places' path' path' (order ++ c ∷ []) order' e f refl h
    (placed n marks places path' order c (same_kept n marks marks places places path (path' ++ c ∷ []) order order refl refl (sym g) refl s) a)

pub started : (n : Netlist) (marks marks' : List Mark) (places places' : List OperandPlace) (path path' order order' : List ℕ) (c : ℕ) → IsKept n marks places path order → path ≡ [] → mark_of marks c ≡ Unseen → is_passing (role_at n c) ≡ true
    → marks' ≡ set marks c OnPath → places' ≡ places → path' ≡ path ++ c ∷ [] → order' ≡ order → IsKept n marks' places' path' order'
started n marks marks' places places' path path' order order' c s empty u p e f g h =
    same_kept n (set marks c OnPath) marks' places places' (path ++ c ∷ []) path' order order' e f g h
    (entered n marks places path order c s u p (λ full. absurd (let none : length path ≡ 0 = ap (λ (xs : List ℕ). length xs) empty in omega arith)))

-- one mark is moved on
pub less_work : (marks marks' : List Mark) (c : ℕ) (k : Mark) → c < length marks → marks' ≡ set marks c k → mark_weight k < mark_weight (mark_of marks c) → sum_by mark_weight marks' < sum_by mark_weight marks
less_work marks marks' c k l e h = rw e (less_by_mark marks c k l h)

pub follows_so : (marks marks' : List Mark) (c : ℕ) (k : Mark) → c < length marks → marks' ≡ set marks c k → (mark_of marks c ≡ Placed → ⊥) → (k ≡ Unseen → ⊥) → Follows marks marks'
follows_so marks marks' c k l e ne nu = rw e (follows_set marks c k l ne nu)

pub unseen_weight : (marks : List Mark) (c : ℕ) → (mark_of marks c ≡ OnPath → ⊥) → (mark_of marks c ≡ Placed → ⊥) → 1 < mark_weight (mark_of marks c)
unseen_weight marks c h q = let e : mark_weight (mark_of marks c) ≡ 2 = ap mark_weight (mark_left (mark_of marks c) h q) in omega arith

pub last_on_path : (n : Netlist) (marks : List Mark) (places : List OperandPlace) (path order : List ℕ) (c : ℕ) → IsKept n marks places path order → IsLast path c → mark_of marks c ≡ OnPath
last_on_path n marks places path order c s l =
    let full : 0 < length path = l.not_empty in
    ap (mark_of marks) (sym l.is) ∙ s.path_marked (length path - 1) (omega arith)

-- what drives the last cell of the path and stands on it closes a loop
pub closed_is_loop : (n : Netlist) (marks : List Mark) (places : List OperandPlace) (path path' order cells : List ℕ) (cell x p i : ℕ) → IsWired n → IsKept n marks places path order → IsLast path cell → feeder_at n cell p i ≡ Some x → path' ≡ path
    → IsClosedBy path' x cells → IsLoop n cells
closed_is_loop n marks places path path' order cells cell x p i w s l f e h =
    let k : IsClosedBy path x cells = subst (λ (ys : List ℕ). IsClosedBy ys x cells) e h in
    unwound_loop n (drop k.place path) cells (loop_rings n marks places path order cell x p i k.place w s l f k.in_range k.is_cell) k.unwound

pub not_so : (b : Bool) (P : Type 0) → b ≡ false → (IsTrue b ↔ P) → P → ⊥
not_so b P e h p = absurd (let t : b ≡ true = h.1 p in cc)

pub path_weight : (marks : List Mark) (c : ℕ) → mark_of marks c ≡ OnPath → 0 < mark_weight (mark_of marks c)
path_weight marks c h = let e : mark_weight (mark_of marks c) ≡ 1 = ap mark_weight h in omega arith

pub path_unplaced : (marks : List Mark) (c : ℕ) → mark_of marks c ≡ OnPath → mark_of marks c ≡ Placed → ⊥
path_unplaced marks c h q = absurd (cc)

pub entered_seen : (marks marks' : List Mark) (c : ℕ) → c < length marks → marks' ≡ set marks c OnPath → mark_of marks' c ≡ Unseen → ⊥
entered_seen marks marks' c l e h = absurd (let on : mark_of marks' c ≡ OnPath = ap (λ (ms : List Mark). mark_of ms c) e ∙ get_or-set_same marks c OnPath Unseen l in cc)

pub unseen_unplaced : (marks : List Mark) (c : ℕ) → mark_of marks c ≡ Unseen → mark_of marks c ≡ Placed → ⊥
unseen_unplaced marks c h q = absurd (cc)
