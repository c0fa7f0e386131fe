-- The cells of the module that is built, laid out along the cells of the original: each cell with the new cells that show its
-- taint, where those come first that pass nothing, and the others in their order.
use Rattle.std.specs.Prelude.{ℕ, zero, suc, ◌+◌, ◌<◌, ◌≤◌, ◌≡◌, ◌⊎◌, Bool, true, false, not, List, [], ◌∷◌, ◌++◌, filter, get_or, length, option_to_list, Some, refl}
use Rattle.std.specs.List.{flat_map, range_with_len}
use Rattle.std.proofs.Common.{arith, sym, ap, ◌∙◌, inl, inr, subst, append_assoc}
use Rattle.std.proofs.lemmas.List.Concat.{flat_map-append}
use Rattle.cif_defs.specs.Kinds.{role_of}
use Rattle.cif_defs.specs.Table.{kind_of, operands_of}
use Rattle.cif_defs.specs.RawModule.{nets_in, operand_bits, port_bits}
use Rattle.cif_defs.specs.Accepted.{netlist_of}
use Rattle.cif_defs.specs.Loop.{IsLevelled, is_passing}
use Rattle.cif_defs.specs.Netlist.{role_at}
use Rattle.cif_defs.specs.declared.kinds.Kind.{Kind}
use Rattle.cif_defs.specs.declared.raw_module.RawBit.{RawBit}
use Rattle.cif_defs.specs.declared.raw_module.RawCell.{RawCell}
use Rattle.cif_defs.specs.declared.raw_module.Raw.{Raw}
use Rattle.cif_defs.proofs.Orders.{driver_before, place_at, place_found, place_in}
use Rattle.cif_augment.specs.Names.{has_role_by}
use Rattle.cif_emit.specs.Emitted.{drives}
use Rattle.cif_built.specs.Makings.{Making}
use Rattle.cif_nets.proofs.Places.{At, At-below, At-has, At-same, Has, Has-filter, Has-left, Has-nets, Has-right, Has-append, Has-unfilter, passes_at}
use Rattle.cif_nets.proofs.Driven.{CellIs}
use Rattle.cif_nets.proofs.Wired.{at_or_past, nets_of_rows}
use Rattle.cif_raw_runs.proofs.OperandWords.{role_at_place}
use Rattle.cif_built_order.proofs.Owners.{passes}
use Rattle.cif_built_order.proofs.Feeding.{cells_long, counted, counted_by, counted_is, counts_at, drives_if_feeds}
use Rattle.cif_built_order.proofs.Turns.{InTurn, KnownBoth, both_more, both_right, in_turn_append, no_reads}
use Rattle.cif_built_order.proofs.Parts.{Building, IsFed, IsPart, group_in_turn, group_of, group_shows, part_of}
use Rattle.cif_built_order.proofs.Origins.{origin}

-- ---- the cells at a number

abbrev pub at_number : {A : Type 0} → (A → List RawCell) → List A → ℕ → List RawCell
at_number f [] i = []
at_number f (x ∷ xs) zero = f x
at_number f (x ∷ xs) (suc i) = at_number f xs i

at_number_is : {A : Type 0} (f : A → List RawCell) (xs : List A) (i : ℕ) (x : A) → At xs i x → at_number f xs i ≡ f x
at_number_is f [] i x h = absurd h
at_number_is f (y ∷ ys) zero x h = ap f h
at_number_is f (y ∷ ys) (suc i) x h = at_number_is f ys i x h

-- what shows the taint of a cell
abbrev pub shown_with : Making → List RawCell
shown_with m = option_to_list m.taint ++ m.showing

abbrev pub group_at : Raw → List Making → ℕ → List RawCell
group_at n makings i = at_number (λ (c : RawCell). c ∷ []) n.cells i ++ at_number shown_with makings i

pub group_at_is : (n a : Raw) (b : Building n a) (i : ℕ) (p : IsPart n a b i) → group_at n b.built.makings i ≡ group_of p.cell p.making
group_at_is n a b i p =
    ap (λ (cs : List RawCell). cs ++ at_number shown_with b.built.makings i) (at_number_is (λ (c : RawCell). c ∷ []) n.cells i p.cell p.is.at_cell)
    ∙ ap (λ (cs : List RawCell). p.cell ∷ cs) (at_number_is shown_with b.built.makings i p.making p.at_making)

-- ---- along the cells

-- what cell d of the original drives is known with its taint
abbrev pub IsDone : (n a : Raw) → Building n a → List ℕ → ℕ → Type 0
IsDone n a b ds d = (c : RawCell) (x : ℕ) → At n.cells d c → Has (drives c) x → KnownBoth a b.built.shadow ds x

-- what cell i reads is known from the beginning, or a cell drives it that is done
abbrev pub IsReady : (n a : Raw) → Building n a → List ℕ → ℕ → Type 0
IsReady n a b done i = (c : RawCell) (x : ℕ) → At n.cells i c → Has (nets_in (counted c)) x
    → KnownBoth a b.built.shadow [] x ⊎ ((d : ℕ) × (e : RawCell) × At n.cells d e × Has (drives e) x × Has done d)

abbrev pub AreReady : (n a : Raw) → Building n a → List ℕ → List ℕ → Type 0
AreReady n a b done [] = Unit {0}
AreReady n a b done (i ∷ rest) = IsReady n a b done i × AreReady n a b (i ∷ done) rest

pub record IsWalked (n a : Raw) (b : Building n a) (ds done rest : List ℕ) : Type 0 where
  pub turn : InTurn a ds (flat_map (group_at n b.built.makings) rest)
  pub all : (d : ℕ) → Has done d ⊎ Has rest d → IsDone n a b (ds ++ flat_map drives (flat_map (group_at n b.built.makings) rest)) d

done_more : (n a : Raw) (b : Building n a) (ds es : List ℕ) (d : ℕ) → IsDone n a b ds d → IsDone n a b (ds ++ es) d
done_more n a b ds es d h c x at k = both_right a b.built.shadow ds es x (h c x at k)

fed_by : (n a : Raw) (b : Building n a) (ds done : List ℕ) (i : ℕ) (p : IsPart n a b i) → ((d : ℕ) → Has done d → IsDone n a b ds d) → IsReady n a b done i → IsFed n a b i p ds
fed_by n a b ds done i p h ready x k =
    elim (ready p.cell x p.is.at_cell (subst (λ (bits : List RawBit). Has (nets_in bits) x) (sym (ap (counted_by p.cell) p.is.is_kind)) k)) [
      | inl l ↦ both_more a b.built.shadow [] ds x (λ y q. absurd q) l
      | inr r ↦ h r.0 r.4 r.1 x r.2 r.3
    ]

done_here : (n a : Raw) (b : Building n a) (ds done : List ℕ) (i : ℕ) (p : IsPart n a b i) → ((d : ℕ) → Has done d → IsDone n a b ds d) → IsFed n a b i p ds
    → (d : ℕ) → Has (i ∷ done) d → IsDone n a b (ds ++ flat_map drives (group_of p.cell p.making)) d
done_here n a b ds done i p h fed d (inl e) c x at k =
    let here : At n.cells i c = rw e at in
    let same : c ≡ p.cell = At-same n.cells i c p.cell here p.is.at_cell in
    group_shows n a b i p ds x fed (subst (λ (q : RawCell). Has (drives q) x) same k)
done_here n a b ds done i p h fed d (inr q) c x at k = done_more n a b ds (flat_map drives (group_of p.cell p.making)) d (h d q) c x at k

pub walk : (n a : Raw) (b : Building n a) (ds done rest : List ℕ) → ((d : ℕ) → Has done d → IsDone n a b ds d) → AreReady n a b done rest → ((i : ℕ) → Has rest i → IsPart n a b i) → IsWalked n a b ds done rest
walk n a b ds done [] h ready parts = record { turn = tt; all = λ d k. elim k [ inl l ↦ done_more n a b ds [] d (h d l) | inr r ↦ absurd r ] }
walk n a b ds done (i ∷ rest) h ready parts =
    let p = parts i (inl refl) in
    let group : List RawCell = group_at n b.built.makings i in
    let later : List RawCell = flat_map (group_at n b.built.makings) rest in
    let is : group ≡ group_of p.cell p.making = group_at_is n a b i p in
    let fed : IsFed n a b i p ds = fed_by n a b ds done i p h ready.0 in
    let turn : InTurn a ds group = subst (InTurn a ds) (sym is) (group_in_turn n a b i p ds fed) in
    let es : List ℕ = ds ++ flat_map drives group in
    let done_now : (d : ℕ) → Has (i ∷ done) d → IsDone n a b es d = λ d k. subst (λ (cs : List RawCell). IsDone n a b (ds ++ flat_map drives cs) d) (sym is) (done_here n a b ds done i p h fed d k) in
    let tail = walk n a b es (i ∷ done) rest done_now ready.1 (λ j k. parts j (inr k)) in
    let same : es ++ flat_map drives later ≡ ds ++ flat_map drives (group ++ later) = append_assoc ds (flat_map drives group) (flat_map drives later) ∙ ap (λ (l : List ℕ). ds ++ l) (sym (flat_map-append drives group later)) in
    record {
      turn = in_turn_append a ds group later turn tail.turn;
      all = λ d k. subst (λ (l : List ℕ). IsDone n a b l d) same (tail.all d (elim k [ inl l ↦ inl (inr l) | inr r ↦ elim r [ inl e ↦ inl (inl e) | inr q ↦ inr q ] ]));
    }

-- ---- cells that pass nothing come first

abbrev pub is_still : Raw → ℕ → Bool
is_still n i = not (is_passing (role_at (netlist_of n) i))

role_here : (n : Raw) (i : ℕ) (c : RawCell) (k : Kind) → CellIs n i c k → is_passing (role_at (netlist_of n) i) ≡ is_passing (role_of k)
role_here n i c k is = ap is_passing (role_at_place n i c k is)

is_false : (b : Bool) → not b ≡ true → b ≡ false
is_false false h = refl
is_false true h = absurd (cc)

passes_kind : (c : RawCell) (k : Kind) → kind_of c.kind ≡ Some k → passes c ≡ is_passing (role_of k)
passes_kind c k e = ap (has_role_by is_passing) e

still_passes : (n a : Raw) (b : Building n a) (i : ℕ) (c : RawCell) → At n.cells i c → is_still n i ≡ true → passes c ≡ false
still_passes n a b i c at h =
    let p = part_of n a b i c at in
    let same : c ≡ p.cell = At-same n.cells i c p.cell at p.is.at_cell in
    let here : is_passing (role_of p.kind) ≡ false = sym (role_here n i p.cell p.kind p.is) ∙ is_false (is_passing (role_at (netlist_of n) i)) h in
    subst (λ (d : RawCell). passes d ≡ false) (sym same) (passes_kind p.cell p.kind p.is.is_kind ∙ here)

stills_ready : (n a : Raw) (b : Building n a) (done stills rest : List ℕ) → ((i : ℕ) → Has stills i → is_still n i ≡ true) → ((now : List ℕ) → ((d : ℕ) → Has done d ⊎ Has stills d → Has now d) → AreReady n a b now rest)
    → AreReady n a b done (stills ++ rest)
stills_ready n a b done [] rest h next = next done (λ d k. elim k [ inl l ↦ l | inr r ↦ absurd r ])
stills_ready n a b done (i ∷ stills) rest h next = (
  λ c x at k. absurd (no_reads c x (still_passes n a b i c at (h i (inl refl))) k),
  stills_ready n a b (i ∷ done) stills rest (λ j k. h j (inr k))
      (λ now held. next now (λ d k. held d (elim k [ inl l ↦ inl (inr l) | inr r ↦ elim r [ inl e ↦ inl (inl e) | inr q ↦ inr q ] ]))),
)

-- ---- the others in their order

counted_operand : (c : RawCell) (k : Kind) (x : ℕ) → kind_of c.kind ≡ Some k → Has (nets_in (counted c)) x → Has (nets_in (operand_bits c)) x
counted_operand c k x e h =
    let place = counts_at [] c k (role_of k) x e (subst (λ (bits : List RawBit). Has (nets_in bits) x) (counted_is c k e) h) in
    let all : Has (nets_in (flat_map (port_bits c) (operands_of k))) x = nets_of_rows c (operands_of k) place.operand place.row x place.at_row (Has-nets (port_bits c place.row) place.to x place.at_bit) in
    rw e all

-- a driver that passes stands before, and one that doesn't is done
driver_done : (n : Raw) (order done : List ℕ) (i k : ℕ) (d : ℕ) (from to : RawCell) (kind l : Kind) (x : ℕ) (passing : Bool) → IsLevelled (netlist_of n) order → place_in order i ≡ k → is_passing (role_at (netlist_of n) i) ≡ true
    → ((e : ℕ) → is_passing (role_at (netlist_of n) e) ≡ true → place_in order e < k → Has done e) → ((e : ℕ) → e < length n.cells → is_still n e ≡ true → Has done e)
    → CellIs n d from kind → CellIs n i to l → Has (drives from) x → Has (nets_in (counted to)) x → is_passing (role_of kind) ≡ passing → Has done d
driver_done n order done i k d from to kind l x true o place passing before still one two h r e =
    let passes_there : is_passing (role_at (netlist_of n) d) ≡ true = role_here n d from kind one ∙ e in
    let less : place_in order d < place_in order i = driver_before (netlist_of n) order d i o passing (drives_if_feeds n d i from to kind l x one two e h r) in
    before d passes_there (omega arith)
driver_done n order done i k d from to kind l x false o place passing before still one two h r e = still d (At-below n.cells d from one.at_cell) (ap not (role_here n d from kind one ∙ e))

one_ready : (n a : Raw) (b : Building n a) (order done : List ℕ) (i k : ℕ) → IsLevelled (netlist_of n) order → place_in order i ≡ k → is_passing (role_at (netlist_of n) i) ≡ true
    → ((e : ℕ) → is_passing (role_at (netlist_of n) e) ≡ true → place_in order e < k → Has done e) → ((e : ℕ) → e < length n.cells → is_still n e ≡ true → Has done e) → IsReady n a b done i
one_ready n a b order done i k o place passing before still c x at h =
    let p = part_of n a b i c at in
    let same : c ≡ p.cell = At-same n.cells i c p.cell at p.is.at_cell in
    let reads : Has (nets_in (counted p.cell)) x = subst (λ (q : RawCell). Has (nets_in (counted q)) x) same h in
    elim (origin n a b i p.cell x p.is.at_cell (counted_operand p.cell p.kind x p.is.is_kind reads)) [
      | inl l ↦ inl l
      | inr r ↦ (let q = part_of n a b r.0 r.1 r.2 in
          let from : r.1 ≡ q.cell = At-same n.cells r.0 r.1 q.cell r.2 q.is.at_cell in
          inr (r.0, r.1, r.2, r.3, driver_done n order done i k r.0 q.cell p.cell q.kind p.kind x (is_passing (role_of q.kind)) o place passing before still q.is p.is (subst (λ (s : RawCell). Has (drives s) x) from r.3) reads refl))
    ]

less_or_same : (j k : ℕ) → j < suc k → (j < k) ⊎ (j ≡ k)
less_or_same j k l = search arith

same_or_more : (s i : ℕ) → s ≤ i → (s ≡ i) ⊎ (s < i)
same_or_more s i l = search arith

-- what has a place before the next one is there, or is the one here
before_next : (n : Raw) (order done : List ℕ) (i k : ℕ) → IsLevelled (netlist_of n) order → k < length order → get_or order k 0 ≡ i
    → ((e : ℕ) → is_passing (role_at (netlist_of n) e) ≡ true → place_in order e < k → Has done e)
    → (e : ℕ) → is_passing (role_at (netlist_of n) e) ≡ true → place_in order e < suc k → Has (i ∷ done) e
before_next n order done i k o inside at before e passing l = elim (less_or_same (place_in order e) k l) [
  | inl m ↦ inr (before e passing m)
  | inr m ↦ inl (sym at ∙ ap (λ (j : ℕ). get_or order j 0) (sym m) ∙ place_found order e (let q : k < length order = inside in omega arith))
]

order_ready : (n a : Raw) (b : Building n a) (order done rest : List ℕ) (k : ℕ) → IsLevelled (netlist_of n) order → ((j : ℕ) → j < length rest → get_or rest j 0 ≡ get_or order (k + j) 0) → k + length rest ≡ length order
    → ((e : ℕ) → is_passing (role_at (netlist_of n) e) ≡ true → place_in order e < k → Has done e) → ((e : ℕ) → e < length n.cells → is_still n e ≡ true → Has done e) → AreReady n a b done rest
order_ready n a b order done [] k o same long before still = tt
order_ready n a b order done (i ∷ rest) k o same long before still =
    let inside : k < length order = omega arith in
    let zero_more : k + 0 ≡ k = omega arith in
    let at : get_or order k 0 ≡ i = ap (λ (j : ℕ). get_or order j 0) (sym zero_more) ∙ sym (same 0 (omega arith)) in
    let place : place_in order i ≡ k = ap (place_in order) (sym at) ∙ place_at order k o.distinct inside in
    let passing : is_passing (role_at (netlist_of n) i) ≡ true = ap (λ (j : ℕ). is_passing (role_at (netlist_of n) j)) (sym at) ∙ o.only_passing k inside in (
      one_ready n a b order done i k o place passing before still,
      order_ready n a b order (i ∷ done) rest (suc k) o
          (λ j l. same (suc j) (omega arith) ∙ ap (λ (m : ℕ). get_or order m 0) (let step : k + suc j ≡ suc k + j = omega arith in step)) (omega arith)
          (before_next n order done i k o inside at before) (λ e l s. inr (still e l s)),
    )

-- ---- all cells

has_range : (s m i : ℕ) → s ≤ i → i < s + m → Has (range_with_len s m) i
has_range s zero i l h = absurd (omega arith)
has_range s (suc m) i l h = elim (same_or_more s i l) [ inl e ↦ inl e | inr k ↦ inr (has_range (s + 1) m i (omega arith) (omega arith)) ]

range_below : (s m i : ℕ) → Has (range_with_len s m) i → i < s + m
range_below s zero i h = absurd h
range_below s (suc m) i (inl e) = omega arith
range_below s (suc m) i (inr h) = (let l : i < s + 1 + m = range_below (s + 1) m i h in omega arith)

abbrev pub still_numbers : Raw → List ℕ
still_numbers n = filter (is_still n) (range_with_len 0 (length n.cells))

has_still : (n : Raw) (i : ℕ) → i < length n.cells → is_still n i ≡ true → Has (still_numbers n) i
has_still n i l h = Has-filter (is_still n) (range_with_len 0 (length n.cells)) i (has_range 0 (length n.cells) i (omega arith) (omega arith)) h

still_is : (n : Raw) (i : ℕ) → Has (still_numbers n) i → is_still n i ≡ true
still_is n i h = (let at = At-has (still_numbers n) i h in passes_at (is_still n) (range_with_len 0 (length n.cells)) at.0 i at.1)

still_below : (n : Raw) (i : ℕ) → Has (still_numbers n) i → i < length n.cells
still_below n i h = (let l : i < 0 + length n.cells = range_below 0 (length n.cells) i (Has-unfilter (is_still n) (range_with_len 0 (length n.cells)) i h) in omega arith)

has_get : (xs : List ℕ) (j x : ℕ) → j < length xs → get_or xs j 0 ≡ x → Has xs x
has_get [] j x l e = absurd (omega arith)
has_get (y ∷ ys) zero x l e = inl e
has_get (y ∷ ys) (suc j) x l e = inr (has_get ys j x (omega arith) e)

at_get : (xs : List ℕ) (j x : ℕ) → At xs j x → (j < length xs) × (get_or xs j 0 ≡ x)
at_get [] j x h = absurd h
at_get (y ∷ ys) zero x h = (omega arith, h)
at_get (y ∷ ys) (suc j) x h = (let rest = at_get ys j x h in (omega (arith, rest.0), rest.1))

-- the numbers of all cells, in the order of the walk
abbrev pub all_numbers : Raw → List ℕ → List ℕ
all_numbers n order = still_numbers n ++ order

has_number_by : (n : Raw) (order : List ℕ) (i : ℕ) (passing : Bool) → IsLevelled (netlist_of n) order → i < length n.cells → is_passing (role_at (netlist_of n) i) ≡ passing → Has (all_numbers n order) i
has_number_by n order i true o l e =
    (let at = o.has_each i (let long : length (netlist_of n).cells ≡ length n.cells = cells_long n in omega arith) e in Has-right (still_numbers n) order i (has_get order at.0 i at.1 at.2))
has_number_by n order i false o l e = Has-left (still_numbers n) order i (has_still n i l (ap not e))

pub has_each_number : (n : Raw) (order : List ℕ) (i : ℕ) → IsLevelled (netlist_of n) order → i < length n.cells → Has (all_numbers n order) i
has_each_number n order i o l = has_number_by n order i (is_passing (role_at (netlist_of n) i)) o l refl

part_below : (n a : Raw) (b : Building n a) (i : ℕ) → i < length n.cells → IsPart n a b i
part_below n a b i l = elim (at_or_past n.cells i) [ inl c ↦ part_of n a b i c.0 c.1 | inr q ↦ absurd (omega arith) ]

number_below : (n : Raw) (order : List ℕ) (i : ℕ) → IsLevelled (netlist_of n) order → Has (all_numbers n order) i → i < length n.cells
number_below n order i o h = elim (Has-append (still_numbers n) order i h) [
  | inl l ↦ still_below n i l
  | inr r ↦ (let at = At-has order i r in
      let get = at_get order at.0 i at.1 in
      let low : get_or order at.0 0 < length (netlist_of n).cells = o.in_range at.0 get.0 in
      let same : get_or order at.0 0 ≡ i = get.1 in
      let long : length (netlist_of n).cells ≡ length n.cells = cells_long n in
      omega arith)
]

all_ready : (n a : Raw) (b : Building n a) (order : List ℕ) → IsLevelled (netlist_of n) order → AreReady n a b [] (all_numbers n order)
all_ready n a b order o =
    stills_ready n a b [] (still_numbers n) order (still_is n)
    (λ now held. order_ready n a b order now order 0 o (λ j l. ap (λ (m : ℕ). get_or order m 0) (let step : j ≡ 0 + j = omega arith in step)) (omega arith)
    (λ e p l. absurd (omega arith)) (λ e l s. held e (inr (has_still n e l s))))

pub walked : (n a : Raw) (b : Building n a) (order : List ℕ) → IsLevelled (netlist_of n) order → IsWalked n a b [] [] (all_numbers n order)
walked n a b order o = walk n a b [] [] (all_numbers n order) (λ d h. absurd h) (all_ready n a b order o) (λ i h. part_below n a b i (number_below n order i o h))
