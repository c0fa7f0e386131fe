-- All cells of the module that is built in one list, in which each that passes stands after those that drive it.
use Rattle.std.specs.Prelude.{ℕ, zero, suc, ◌≡◌, true, false, List, [], ◌∷◌, ◌++◌, map, option_to_list, refl}
use Rattle.std.specs.List.{AllZip, flat_map}
use Rattle.std.proofs.Common.{sym, inl, inr, subst}
use Rattle.std.proofs.lemmas.List.Sorted.{Contains-permutation, IsPermutation-sym}
use Rattle.cif_defs.specs.RawModule.{nets_in, operand_bits, output_bits}
use Rattle.cif_defs.specs.Accepted.{netlist_of}
use Rattle.cif_defs.specs.Loop.{IsLevelled}
use Rattle.cif_defs.specs.declared.raw_module.RawCell.{RawCell}
use Rattle.cif_defs.specs.declared.raw_module.Raw.{Raw}
use Rattle.cif_augment.specs.Additions.{Block, block_cells}
use Rattle.cif_emit.specs.Emitted.{drives}
use Rattle.cif_built.specs.Makings.{Making, block_of, known_for_storing, state_cells, with_taints}
use Rattle.cif_built.specs.Built.{IsMaking}
use Rattle.cif_nets.proofs.Places.{At, At-below, At-has, At-same, Has, Has-append, Has-at, Has-flat_map, Has-left, Has-right}
use Rattle.cif_raw_runs.proofs.Numbers.{contained_has, has_contained}
use Rattle.cif_built_order.proofs.Owners.{from_flat_map, passes}
use Rattle.cif_built_order.proofs.Turns.{InTurn, Known, KnownBoth, both_more, in_turn_append, known_more, plain_in_turn}
use Rattle.cif_built_order.proofs.Parts.{Building, IsPart, each_plain, group_of, has_kind, is_copy, is_flag, nets_split, new_cell, own_cell, part_of, some_of, state_known, state_there, with_taints_known}
use Rattle.cif_built_order.proofs.Origins.{origin}
use Rattle.cif_built_order.proofs.Walk.{all_numbers, at_number, group_at, group_at_is, has_each_number, shown_with, walked}

-- ---- the part of a making

zip_back : {A B : Type 0} (R : A → B → Type 0) (xs : List A) (ys : List B) (i : ℕ) (y : B) → AllZip R xs ys → At ys i y → (x : A) × At xs i x × R x y
zip_back R xs [] i y h at = absurd at
zip_back R [] (z ∷ zs) i y h at = absurd h
zip_back R (x ∷ xs) (z ∷ zs) zero y h at = (x, refl, subst (R x) at h.0)
zip_back R (x ∷ xs) (z ∷ zs) (suc i) y h at = (let rest = zip_back R xs zs i y h.1 at in (rest.0, rest.1, rest.2))

-- the cell, its kind and the number of a making
record IsPartOf (n a : Raw) (b : Building n a) (m : Making) : Type 0 where
  number : ℕ
  part : IsPart n a b number
  same : part.making ≡ m

part_of_making : (n a : Raw) (b : Building n a) (i : ℕ) (m : Making) → At b.built.makings i m → IsPartOf n a b m
part_of_making n a b i m at =
    let cell = zip_back (IsMaking n b.released b.built.shadow) n.cells b.built.makings i m b.built.are_makings at in
    let kind = has_kind n i cell.0 b.passed cell.1 in
    record { number = i; part = record { cell = cell.0; kind = kind.0; making = m; is = record { at_cell = cell.1; is_kind = kind.1 }; at_making = at; is_making = cell.2 }; same = refl }

-- ---- where all cells of the original are done

-- numbers that hold what the groups of all cells drive, once what these drive is known with its taint
record AreDone (n a : Raw) (b : Building n a) (ds : List ℕ) : Type 0 where
  done : (i : ℕ) (c : RawCell) (x : ℕ) → At n.cells i c → Has (drives c) x → KnownBoth a b.built.shadow ds x
  held : (i : ℕ) (p : IsPart n a b i) (d : RawCell) (y : ℕ) → Has (group_of p.cell p.making) d → Has (drives d) y → Has ds y

operand_known : (n a : Raw) (b : Building n a) (ds : List ℕ) (i : ℕ) (c : RawCell) (x : ℕ) → AreDone n a b ds → At n.cells i c → Has (nets_in (operand_bits c)) x → KnownBoth a b.built.shadow ds x
operand_known n a b ds i c x h at k = elim (origin n a b i c x at k) [
  | inl l ↦ both_more a b.built.shadow [] ds x (λ y q. absurd q) l
  | inr r ↦ h.done r.0 r.1 x r.2 r.3
]

storing_known : (n a : Raw) (b : Building n a) (ds es : List ℕ) (i : ℕ) (p : IsPart n a b i) (y : ℕ) → AreDone n a b ds → ((z : ℕ) → Has ds z → Has es z) → Has (known_for_storing b.built.shadow p.cell p.making) y → Known a es y
storing_known n a b ds es i p y h more k =
    let taints : List RawCell = option_to_list p.making.taint in
    let held : (d : RawCell) (z : ℕ) → Has (taints ++ p.making.showing) d → Has (drives d) z → Has es z = λ d z q r. more z (h.held i p d z (inr q) r) in
    elim (Has-append (nets_in (with_taints b.built.shadow (operand_bits p.cell) ++ output_bits p.cell ++ flat_map output_bits (state_cells p.making))) (flat_map drives p.making.showing) y k) [
      | inl l ↦ elim (nets_split (with_taints b.built.shadow (operand_bits p.cell) ++ output_bits p.cell) (flat_map output_bits (state_cells p.making)) y l) [
        | inl q ↦ elim (nets_split (with_taints b.built.shadow (operand_bits p.cell)) (output_bits p.cell) y q) [
          | inl r ↦ known_more a ds es y (λ z t. inr (more z t)) (with_taints_known a b.built.shadow ds (operand_bits p.cell) y (λ x t. operand_known n a b ds i p.cell x h p.is.at_cell t) r)
          | inr r ↦ known_more a ds es y (λ z t. inr (more z t)) (h.done i p.cell y p.is.at_cell r).0
        ]
        | inr q ↦ state_known n a b i p es y (λ z t. let d = from_flat_map drives taints z t in held d.0 z (Has-left taints p.making.showing d.0 d.1) d.2) q
      ]
      | inr r ↦ (let d = from_flat_map drives p.making.showing y r in inr (held d.0 y (Has-right taints p.making.showing d.0 d.1) d.2))
    ]

abbrev pub storing_of : Making → List RawCell
storing_of m = m.storing

one_stores : (n a : Raw) (b : Building n a) (ds es : List ℕ) (i : ℕ) (p : IsPart n a b i) → AreDone n a b ds → ((z : ℕ) → Has ds z → Has es z) → InTurn a es p.making.storing
one_stores n a b ds es i p h more =
    plain_in_turn a es (known_for_storing b.built.shadow p.cell p.making) p.making.storing
    (λ c k. (each_plain (p.making.showing ++ p.making.storing) c p.is_making.plain (Has-right p.making.showing p.making.storing c k)).computes)
    (λ y k. storing_known n a b ds es i p y h more k) (p.is_making.by_kind p.kind p.is.is_kind).reads_for_storing

all_store : (n a : Raw) (b : Building n a) (ds es : List ℕ) (ms : List Making) → AreDone n a b ds → ((z : ℕ) → Has ds z → Has es z) → ((m : Making) → Has ms m → IsPartOf n a b m) → InTurn a es (flat_map storing_of ms)
all_store n a b ds es [] h more parts = tt
all_store n a b ds es (m ∷ ms) h more parts =
    let here = parts m (inl refl) in
    let first : InTurn a es m.storing = subst (λ (q : Making). InTurn a es q.storing) here.same (one_stores n a b ds es here.number here.part h more) in
    let later : List ℕ = flat_map drives m.storing in
    in_turn_append a es m.storing (flat_map storing_of ms) first
    (all_store n a b ds (es ++ later) ms h (λ z k. Has-left es later z (more z k)) (λ q k. parts q (inr k)))

-- ---- the list

abbrev pub shown_part : Raw → List Making → List ℕ → List RawCell
shown_part n makings order = flat_map (group_at n makings) (all_numbers n order)

abbrev pub layout : Raw → List Making → List ℕ → List RawCell
layout n makings order = shown_part n makings order ++ flat_map storing_of makings

in_group : (n a : Raw) (b : Building n a) (order : List ℕ) (i : ℕ) (p : IsPart n a b i) (d : RawCell) → IsLevelled (netlist_of n) order → Has (group_of p.cell p.making) d → Has (shown_part n b.built.makings order) d
in_group n a b order i p d o h =
    let at = At-has (all_numbers n order) i (has_each_number n order i o (At-below n.cells i p.cell p.is.at_cell)) in
    Has-flat_map (group_at n b.built.makings) (all_numbers n order) at.0 i d at.1 (rw (group_at_is n a b i p) h)

driven_in : (cs : List RawCell) (d : RawCell) (y : ℕ) → Has cs d → Has (drives d) y → Has (flat_map drives cs) y
driven_in cs d y h k = (let at = At-has cs d h in Has-flat_map drives cs at.0 d y at.1 k)

are_done : (n a : Raw) (b : Building n a) (order : List ℕ) → IsLevelled (netlist_of n) order → AreDone n a b (flat_map drives (shown_part n b.built.makings order))
are_done n a b order o = record {
  done = λ i c x at k. (walked n a b order o).all i (inr (has_each_number n order i o (At-below n.cells i c at))) c x at k;
  held = λ i p d y h k. driven_in (shown_part n b.built.makings order) d y (in_group n a b order i p d o h) k;
}

pub layout_in_turn : (n a : Raw) (b : Building n a) (order : List ℕ) → IsLevelled (netlist_of n) order → InTurn a [] (layout n b.built.makings order)
layout_in_turn n a b order o =
    let ds : List ℕ = flat_map drives (shown_part n b.built.makings order) in
    in_turn_append a [] (shown_part n b.built.makings order) (flat_map storing_of b.built.makings) (walked n a b order o).turn
    (all_store n a b ds ds b.built.makings (are_done n a b order o) (λ z k. k) (λ m k. let at = At-has b.built.makings m k in part_of_making n a b at.0 m at.1))

-- ---- each cell that passes stands in it

from_map : {A B : Type 0} (f : A → B) (xs : List A) (y : B) → Has (map f xs) y → (x : A) × Has xs x × (f x ≡ y)
from_map f [] y h = absurd h
from_map f (x ∷ xs) y (inl e) = (x, inl refl, e)
from_map f (x ∷ xs) y (inr h) = (let rest = from_map f xs y h in (rest.0, inr rest.1, rest.2))

moves_nothing : (d : RawCell) → passes d ≡ false → passes d ≡ true → ⊥
moves_nothing d h k = cc

new_in_layout : (n a : Raw) (b : Building n a) (order : List ℕ) (i : ℕ) (p : IsPart n a b i) (d : RawCell) → IsLevelled (netlist_of n) order → passes d ≡ true → Has (block_cells (block_of p.making)) d → Has (layout n b.built.makings order) d
new_in_layout n a b order i p d o h k =
    let m = p.making in
    let shown : List RawCell = shown_part n b.built.makings order in
    let stored : List RawCell = flat_map storing_of b.built.makings in
    elim (Has-append (state_cells p.making) (p.making.showing ++ p.making.storing) d k) [
      | inl l ↦ elim (Has-append (option_to_list p.making.taint ++ option_to_list p.making.flag) (option_to_list p.making.copy) d l) [
        | inl q ↦ elim (Has-append (option_to_list p.making.taint) (option_to_list p.making.flag) d q) [
          | inl r ↦ Has-left shown stored d (in_group n a b order i p d o (inr (Has-left (option_to_list p.making.taint) p.making.showing d r)))
          | inr r ↦ absurd (moves_nothing d (is_flag n p.cell p.making d p.is_making.block (some_of p.making.flag d r)) h)
        ]
        | inr q ↦ absurd (moves_nothing d (is_copy n p.cell p.kind p.making d p.is.is_kind p.is_making.block (some_of p.making.copy d q)) h)
      ]
      | inr r ↦ elim (Has-append p.making.showing p.making.storing d r) [
        | inl l ↦ Has-left shown stored d (in_group n a b order i p d o (inr (Has-right (option_to_list p.making.taint) p.making.showing d l)))
        | inr q ↦ Has-right shown stored d (Has-flat_map storing_of b.built.makings i p.making d p.at_making q)
      ]
    ]

pub in_layout : (n a : Raw) (b : Building n a) (order : List ℕ) (d : RawCell) → IsLevelled (netlist_of n) order → Has a.cells d → passes d ≡ true → Has (layout n b.built.makings order) d
in_layout n a b order d o h k =
    let blocks : List RawCell = flat_map block_cells (map block_of b.built.makings) in
    let back : Has (n.cells ++ blocks) d =
    has_contained (n.cells ++ blocks) d (Contains-permutation a.cells (n.cells ++ blocks) d (IsPermutation-sym (n.cells ++ blocks) a.cells b.built.has_cells) (contained_has a.cells d h)) in
    elim (Has-append n.cells blocks d back) [
      | inl l ↦ (let at = At-has n.cells d l in
          let p = part_of n a b at.0 d at.1 in
          let same : p.cell ≡ d = At-same n.cells at.0 p.cell d p.is.at_cell at.1 in
          Has-left (shown_part n b.built.makings order) (flat_map storing_of b.built.makings) d (in_group n a b order at.0 p d o (inl same)))
      | inr r ↦ (let block = from_flat_map block_cells (map block_of b.built.makings) d r in
          let making = from_map block_of b.built.makings block.0 block.1 in
          let at = At-has b.built.makings making.0 making.1 in
          let p = part_of_making n a b at.0 making.0 at.1 in
          let cells : Has (block_cells (block_of making.0)) d = subst (λ (q : Block). Has (block_cells q) d) (sym making.2) block.2 in
          new_in_layout n a b order p.number p.part d o k (subst (λ (m : Making). Has (block_cells (block_of m)) d) (sym p.same) cells))
    ]

-- ---- and nothing else does

from_number : {A : Type 0} (f : A → List RawCell) (xs : List A) (i : ℕ) (d : RawCell) → Has (at_number f xs i) d → (x : A) × At xs i x × Has (f x) d
from_number f [] i d h = absurd h
from_number f (x ∷ xs) zero d h = (x, refl, h)
from_number f (x ∷ xs) (suc i) d h = from_number f xs i d h

further_there : (n a : Raw) (b : Building n a) (i : ℕ) (m : Making) (d : RawCell) → At b.built.makings i m → Has (m.showing ++ m.storing) d → Has a.cells d
further_there n a b i m d at h = new_cell n a b i m d at (Has-right (state_cells m) (m.showing ++ m.storing) d h)

group_there : (n a : Raw) (b : Building n a) (i : ℕ) (d : RawCell) → Has (group_at n b.built.makings i) d → Has a.cells d
group_there n a b i d h = elim (Has-append (at_number (λ (c : RawCell). c ∷ []) n.cells i) (at_number shown_with b.built.makings i) d h) [
  | inl l ↦ (let cell = from_number (λ (c : RawCell). c ∷ []) n.cells i d l in own_cell n a b d (elim cell.2 [ inl e ↦ subst (Has n.cells) e (Has-at n.cells i cell.0 cell.1) | inr q ↦ absurd q ]))
  | inr r ↦ (let making = from_number shown_with b.built.makings i d r in
      let m = making.0 in
      elim (Has-append (option_to_list making.0.taint) making.0.showing d making.2) [
        | inl l ↦ state_there n a b i making.0 d making.1 (Has-left (option_to_list m.taint ++ option_to_list m.flag) (option_to_list m.copy) d (Has-left (option_to_list m.taint) (option_to_list m.flag) d l))
        | inr q ↦ further_there n a b i making.0 d making.1 (Has-left m.showing m.storing d q)
      ])
]

pub layout_there : (n a : Raw) (b : Building n a) (order : List ℕ) (d : RawCell) → Has (layout n b.built.makings order) d → Has a.cells d
layout_there n a b order d h = elim (Has-append (shown_part n b.built.makings order) (flat_map storing_of b.built.makings) d h) [
  | inl l ↦ (let i = from_flat_map (group_at n b.built.makings) (all_numbers n order) d l in group_there n a b i.0 d i.2)
  | inr r ↦ (let making = from_flat_map storing_of b.built.makings d r in
      let at = At-has b.built.makings making.0 making.1 in
      further_there n a b at.0 making.0 d at.1 (Has-right making.0.showing making.0.storing d making.2))
]
