-- The new cells for a cell: they, after the cell itself, stand in turn where what the cell reads is known with its taint.
use Rattle.std.specs.Prelude.{ℕ, zero, suc, ◌≡◌, ◌⊎◌, Bool, true, false, List, [], ◌∷◌, ◌++◌, map, Option, Some, None, option_to_list, IsNone, IsSomeAnd, MatchBool, refl}
use Rattle.std.specs.List.{AllByRecursion, AllZip, flat_map}
use Rattle.std.proofs.Common.{sym, ap, ◌∙◌, inl, inr, subst}
use Rattle.std.proofs.lemmas.Bool.{and_parts}
use Rattle.std.proofs.lemmas.List.Sorted.{Contains-permutation}
use Rattle.std.proofs.lemmas.List.Concat.{flat_map-append}
use Rattle.cif_defs.specs.Kinds.{role_of, is_register, is_memory}
use Rattle.cif_defs.specs.Table.{kind_of, type_text}
use Rattle.cif_defs.specs.RawModule.{nets_in, output_bits}
use Rattle.cif_defs.specs.Loop.{is_passing}
use Rattle.cif_defs.specs.declared.kinds.Kind.{Kind}
use Rattle.cif_defs.specs.declared.kinds.Kind.TheVariants.{Dff, Sdff, Sdffe, Adff, Adffe, Mem}
use Rattle.cif_defs.specs.declared.kinds.Role.{Role}
use Rattle.cif_defs.specs.declared.kinds.Role.TheVariants.{Combinational, PlainRegister, ResetRegister, MemoryBlock, CarriedOver}
use Rattle.cif_defs.specs.declared.raw_module.RawBit.{RawBit}
use Rattle.cif_defs.specs.declared.raw_module.RawBit.TheVariants.{Net, Zero, One, X, Z}
use Rattle.cif_defs.specs.declared.raw_module.RawCell.{RawCell}
use Rattle.cif_defs.specs.declared.raw_module.Raw.{Raw}
use Rattle.cif_checks.specs.Checks.{IsWellFormed, cell_fault, cell_fault_by}
use Rattle.cif_augment.specs.Names.{has_flag, has_role, has_role_by, is_reset_register}
use Rattle.cif_augment.specs.Additions.{IsBlock, IsCopy, IsFlag, IsTaintMemory, IsTaintRegister, block_cells, copy_kind}
use Rattle.cif_emit.specs.Emitted.{IsPlainCell, are_known, drives, is_known}
use Rattle.cif_built.specs.Makings.{Making, block_of, known_for_showing, operand_row, passing_bits, state_cells, taint_bits, with_taints}
use Rattle.cif_built.specs.Built.{IsBuilt, IsMaking, IsMakingAs}
use Rattle.cif_nets.proofs.Places.{At, At-has, Has, Has-append, Has-at, Has-flat_map, Has-left, Has-right, nets_in-append}
use Rattle.cif_nets.proofs.Driven.{CellIs}
use Rattle.cif_nets.proofs.Passed.{Passed, each_passes}
use Rattle.cif_raw_runs.proofs.Numbers.{contained_has, has_contained}
use Rattle.cif_built_order.proofs.Owners.{from_flat_map, has_net, nets_of_bit, none_at_cell, passes}
use Rattle.cif_built_order.proofs.Feeding.{counted, counted_by, counted_is, passing_by}
use Rattle.cif_built_order.proofs.Turns.{InTurn, Known, KnownBoth, Reads, both_more, has_if_number, in_turn_append, known_more, no_reads, plain_in_turn}

-- ---- the module that is built

pub record Building (n a : Raw) : Type 0 where
  pub released : List ℕ
  pub built : IsBuilt n released a
  pub form : IsWellFormed n
  pub passed : Passed n
  pub passed_there : Passed a

-- what the lists of cells and of makings have at a number
pub record IsPart (n a : Raw) (b : Building n a) (i : ℕ) : Type 0 where
  pub cell : RawCell
  pub kind : Kind
  pub making : Making
  pub is : CellIs n i cell kind
  pub at_making : At b.built.makings i making
  pub is_making : IsMaking n b.released b.built.shadow cell making

pub zip_at : {A B : Type 0} (R : A → B → Type 0) (xs : List A) (ys : List B) (i : ℕ) (x : A) → AllZip R xs ys → At xs i x → (y : B) × At ys i y × R x y
zip_at R [] ys i x h at = absurd at
zip_at R (z ∷ zs) [] i x h at = absurd h
zip_at R (z ∷ zs) (y ∷ ys) zero x h at = (y, refl, subst (λ w. R w y) at h.0)
zip_at R (z ∷ zs) (y ∷ ys) (suc i) x h at = (let rest = zip_at R zs ys i x h.1 at in (rest.0, rest.1, rest.2))

kind_by : (c : RawCell) (o : Option Kind) → kind_of c.kind ≡ o → cell_fault_by c o ≡ None → (k : Kind) × (kind_of c.kind ≡ Some k)
kind_by c None e h = absurd (cc)
kind_by c (Some k) e h = (k, e)

pub has_kind : (n : Raw) (i : ℕ) (c : RawCell) → Passed n → At n.cells i c → (k : Kind) × (kind_of c.kind ≡ Some k)
unfolding cell_fault
has_kind n i c s at = kind_by c (kind_of c.kind) refl (each_passes cell_fault n.cells c s.cells (Has-at n.cells i c at))

pub part_of : (n a : Raw) (b : Building n a) (i : ℕ) (c : RawCell) → At n.cells i c → IsPart n a b i
part_of n a b i c at =
    let kind = has_kind n i c b.passed at in
    let making = zip_at (IsMaking n b.released b.built.shadow) n.cells b.built.makings i c b.built.are_makings at in
    record { cell = c; kind = kind.0; making = making.0; is = record { at_cell = at; is_kind = kind.1 }; at_making = making.1; is_making = making.2 }

-- ---- cells of the module that is built

at_map : {A B : Type 0} (f : A → B) (xs : List A) (i : ℕ) (x : A) → At xs i x → At (map f xs) i (f x)
at_map f [] i x h = absurd h
at_map f (y ∷ ys) zero x h = ap f h
at_map f (y ∷ ys) (suc i) x h = at_map f ys i x h

pub cell_there : (n a : Raw) (b : Building n a) (c : RawCell) → Has (n.cells ++ flat_map block_cells (map block_of b.built.makings)) c → Has a.cells c
cell_there n a b c h =
    has_contained a.cells c (Contains-permutation (n.cells ++ flat_map block_cells (map block_of b.built.makings)) a.cells c b.built.has_cells
    (contained_has (n.cells ++ flat_map block_cells (map block_of b.built.makings)) c h))

pub own_cell : (n a : Raw) (b : Building n a) (c : RawCell) → Has n.cells c → Has a.cells c
own_cell n a b c h = cell_there n a b c (Has-left n.cells (flat_map block_cells (map block_of b.built.makings)) c h)

pub new_cell : (n a : Raw) (b : Building n a) (i : ℕ) (m : Making) (d : RawCell) → At b.built.makings i m → Has (block_cells (block_of m)) d → Has a.cells d
new_cell n a b i m d at h =
    cell_there n a b d (Has-right n.cells (flat_map block_cells (map block_of b.built.makings)) d
    (Has-flat_map block_cells (map block_of b.built.makings) i (block_of m) d (at_map block_of b.built.makings i m at) h))

pub state_there : (n a : Raw) (b : Building n a) (i : ℕ) (m : Making) (d : RawCell) → At b.built.makings i m → Has (state_cells m) d → Has a.cells d
state_there n a b i m d at h = new_cell n a b i m d at (Has-left (state_cells m) (m.showing ++ m.storing) d h)

-- ---- cells that store

role_by_kind : (test : Role → Bool) (c : RawCell) (k : Kind) → kind_of c.kind ≡ Some k → has_role test c ≡ test (role_of k)
role_by_kind test c k e = ap (has_role_by test) e

named_kind : (d : RawCell) (k : Kind) → kind_of (type_text k) ≡ Some k → d.kind ≡ type_text k → passes d ≡ is_passing (role_of k)
named_kind d k h e = ap (λ (text : List ℕ). has_role_by is_passing (kind_of text)) e ∙ ap (has_role_by is_passing) h

is_dff : (d : RawCell) → d.kind ≡ type_text Dff → passes d ≡ false
is_dff d e = named_kind d Dff refl e

-- what a cell stores of taint passes nothing, but for a memory of taint
abbrev pub IsTaintOf : Kind → RawCell → Type 0
IsTaintOf k t = (passes t ≡ false) ⊎ ((role_of k ≡ MemoryBlock) × (kind_of t.kind ≡ Some Mem))

taint_by_role : (c : RawCell) (k : Kind) (t : RawCell) (role : Role) → role_of k ≡ role
    → MatchBool (is_register role) (IsTaintRegister c t) (MatchBool (is_memory role) (IsTaintMemory c t) (true ≡ false)) → IsTaintOf k t
taint_by_role c k t PlainRegister e h = inl (is_dff t h.is_new.kind)
taint_by_role c k t ResetRegister e h = inl (is_dff t h.is_new.kind)
taint_by_role c k t MemoryBlock e h = inr (e, ap kind_of h.is_new.kind)
taint_by_role c k t Combinational e h = absurd (cc)
taint_by_role c k t CarriedOver e h = absurd (cc)

pub is_taint : (n : Raw) (c : RawCell) (k : Kind) (m : Making) (t : RawCell) → kind_of c.kind ≡ Some k → IsBlock n c (block_of m) → m.taint ≡ Some t → IsTaintOf k t
is_taint n c k m t e block taint =
    let at : MatchBool (has_role is_register c) (IsTaintRegister c t) (MatchBool (has_role is_memory c) (IsTaintMemory c t) (true ≡ false)) =
    subst (λ (o : Option RawCell). MatchBool (has_role is_register c) (IsSomeAnd o (IsTaintRegister c)) (MatchBool (has_role is_memory c) (IsSomeAnd o (IsTaintMemory c)) (IsNone o))) taint block.taint in
    taint_by_role c k t (role_of k) refl (rw (role_by_kind is_register c k e, role_by_kind is_memory c k e) at at)

flag_by : (c f : RawCell) (b : Bool) → MatchBool b (IsFlag c f) (true ≡ false) → passes f ≡ false
flag_by c f true h = is_dff f h.is_new.kind
flag_by c f false h = absurd (cc)

pub is_flag : (n : Raw) (c : RawCell) (m : Making) (f : RawCell) → IsBlock n c (block_of m) → m.flag ≡ Some f → passes f ≡ false
is_flag n c m f block flag = flag_by c f (has_flag c) (subst (λ (o : Option RawCell). MatchBool (has_flag c) (IsSomeAnd o (IsFlag c)) (IsNone o)) flag block.flag)

copy_by_kind : (v : RawCell) (k : Kind) → is_reset_register (role_of k) ≡ true → v.kind ≡ copy_kind (Some k) → passes v ≡ false
copy_by_kind v Adff h e = named_kind v Sdff refl e
copy_by_kind v Adffe h e = named_kind v Sdffe refl e
copy_by_kind v _ h e = absurd (cc)

copy_by : (c v : RawCell) (k : Kind) (b : Bool) → kind_of c.kind ≡ Some k → is_reset_register (role_of k) ≡ b → MatchBool b (IsCopy c v) (true ≡ false) → passes v ≡ false
copy_by c v k true e r h = copy_by_kind v k r (h.is_new.kind ∙ ap copy_kind e)
copy_by c v k false e r h = absurd (cc)

pub is_copy : (n : Raw) (c : RawCell) (k : Kind) (m : Making) (v : RawCell) → kind_of c.kind ≡ Some k → IsBlock n c (block_of m) → m.copy ≡ Some v → passes v ≡ false
is_copy n c k m v e block copy =
    copy_by c v k (has_role is_reset_register c) e (sym (role_by_kind is_reset_register c k e))
    (subst (λ (o : Option RawCell). MatchBool (has_role is_reset_register c) (IsSomeAnd o (IsCopy c)) (IsNone o)) copy block.copy)

pub some_of : {A : Type 0} (o : Option A) (x : A) → Has (option_to_list o) x → o ≡ Some x
some_of None x h = absurd h
some_of (Some y) x (inl e) = ap (λ z. Some z) e
some_of (Some y) x (inr h) = absurd h

-- what a cell that stores drives is known once the memory of taint stands
pub state_known : (n a : Raw) (b : Building n a) (i : ℕ) (p : IsPart n a b i) (es : List ℕ) (y : ℕ) → ((z : ℕ) → Has (flat_map drives (option_to_list p.making.taint)) z → Has es z)
    → Has (nets_in (flat_map output_bits (state_cells p.making))) y → Known a es y
state_known n a b i p es y more h =
    let cell = from_flat_map output_bits (state_cells p.making) (Net y) (has_net (flat_map output_bits (state_cells p.making)) y h) in
    let out : Has (drives cell.0) y = nets_of_bit (output_bits cell.0) y cell.2 in
    let there : Has a.cells cell.0 = state_there n a b i p.making cell.0 p.at_making cell.1 in
    elim (Has-append (option_to_list p.making.taint ++ option_to_list p.making.flag) (option_to_list p.making.copy) cell.0 cell.1) [
      | inl l ↦ elim (Has-append (option_to_list p.making.taint) (option_to_list p.making.flag) cell.0 l) [
        | inl q ↦ (let at = At-has (option_to_list p.making.taint) cell.0 q in inr (more y (Has-flat_map drives (option_to_list p.making.taint) at.0 cell.0 y at.1 out)))
        | inr q ↦ inl (none_at_cell a cell.0 y b.passed_there there out (is_flag n p.cell p.making cell.0 p.is_making.block (some_of p.making.flag cell.0 q)))
      ]
      | inr r ↦ inl (none_at_cell a cell.0 y b.passed_there there out (is_copy n p.cell p.kind p.making cell.0 p.is.is_kind p.is_making.block (some_of p.making.copy cell.0 r)))
    ]

-- ---- bits with their taints

head_or_tail : (b : RawBit) (bits : List RawBit) (y : ℕ) → Has (nets_in (b ∷ bits)) y → (b ≡ Net y) ⊎ Has (nets_in bits) y
head_or_tail (Net x) bits y (inl e) = inl (ap Net e)
head_or_tail (Net x) bits y (inr h) = inr h
head_or_tail Zero bits y h = inr h
head_or_tail One bits y h = inr h
head_or_tail X bits y h = inr h
head_or_tail Z bits y h = inr h

taint_from : (shadow : ℕ → RawBit) (bits : List RawBit) (y : ℕ) → Has (nets_in (taint_bits shadow bits)) y → (x : ℕ) × Has (nets_in bits) x × (shadow x ≡ Net y)
taint_from shadow [] y h = absurd h
taint_from shadow (Net x ∷ bits) y h = elim (head_or_tail (shadow x) (taint_bits shadow bits) y h) [
  | inl e ↦ (x, inl refl, e)
  | inr k ↦ (let rest = taint_from shadow bits y k in (rest.0, inr rest.1, rest.2))
]
taint_from shadow (Zero ∷ bits) y h = taint_from shadow bits y h
taint_from shadow (One ∷ bits) y h = taint_from shadow bits y h
taint_from shadow (X ∷ bits) y h = taint_from shadow bits y h
taint_from shadow (Z ∷ bits) y h = taint_from shadow bits y h

pub nets_split : (xs ys : List RawBit) (y : ℕ) → Has (nets_in (xs ++ ys)) y → Has (nets_in xs) y ⊎ Has (nets_in ys) y
nets_split xs ys y h = Has-append (nets_in xs) (nets_in ys) y (rw (nets_in-append xs ys) at h)

pub with_taints_known : (a : Raw) (shadow : ℕ → RawBit) (ds : List ℕ) (bits : List RawBit) (y : ℕ) → ((x : ℕ) → Has (nets_in bits) x → KnownBoth a shadow ds x) → Has (nets_in (with_taints shadow bits)) y → Known a ds y
with_taints_known a shadow ds bits y h k = elim (nets_split bits (taint_bits shadow bits) y k) [
  | inl l ↦ (h y l).0
  | inr r ↦ (let from = taint_from shadow bits y r in (h from.0 from.1).1 y from.2)
]

known_taint : (known : List ℕ) (shadow : ℕ → RawBit) (bits : List RawBit) (x : ℕ) → are_known known (taint_bits shadow bits) ≡ true → Has (nets_in bits) x → is_known known (shadow x) ≡ true
known_taint known shadow [] x h k = absurd k
known_taint known shadow (Net y ∷ bits) x h (inl e) = ap (λ z. is_known known (shadow z)) (sym e) ∙ (and_parts (is_known known (shadow y)) (are_known known (taint_bits shadow bits)) h).0
known_taint known shadow (Net y ∷ bits) x h (inr k) = known_taint known shadow bits x (and_parts (is_known known (shadow y)) (are_known known (taint_bits shadow bits)) h).1 k
known_taint known shadow (Zero ∷ bits) x h k = known_taint known shadow bits x h k
known_taint known shadow (One ∷ bits) x h k = known_taint known shadow bits x h k
known_taint known shadow (X ∷ bits) x h k = known_taint known shadow bits x h k
known_taint known shadow (Z ∷ bits) x h k = known_taint known shadow bits x h k

known_net : (known : List ℕ) (b : RawBit) (y : ℕ) → is_known known b ≡ true → b ≡ Net y → Has known y
known_net known b y h e = has_if_number known y (ap (is_known known) (sym e) ∙ h)

-- ---- a cell and those that show its taint

abbrev pub group_of : RawCell → Making → List RawCell
group_of c m = c ∷ (option_to_list m.taint ++ m.showing)

-- what the cell reads is known with its taint
abbrev pub IsFed : (n a : Raw) (b : Building n a) (i : ℕ) → IsPart n a b i → List ℕ → Type 0
IsFed n a b i p ds = (x : ℕ) → Has (nets_in (passing_bits p.cell p.kind)) x → KnownBoth a b.built.shadow ds x

showing_known : (n a : Raw) (b : Building n a) (i : ℕ) (p : IsPart n a b i) (ds es : List ℕ) (y : ℕ) → IsFed n a b i p ds → ((z : ℕ) → Has ds z → Has es z) → ((z : ℕ) → Has (flat_map drives (option_to_list p.making.taint)) z → Has es z)
    → Has (known_for_showing b.built.shadow p.cell p.kind p.making) y → Known a es y
showing_known n a b i p ds es y fed more taint h =
    elim (nets_split (with_taints b.built.shadow (passing_bits p.cell p.kind)) (flat_map output_bits (state_cells p.making)) y h) [
      | inl l ↦ known_more a ds es y (λ z k. inr (more z k)) (with_taints_known a b.built.shadow ds (passing_bits p.cell p.kind) y fed l)
      | inr r ↦ state_known n a b i p es y taint r
    ]

taint_reads : (n a : Raw) (b : Building n a) (i : ℕ) (p : IsPart n a b i) (ds : List ℕ) (t : RawCell) → p.making.taint ≡ Some t → IsFed n a b i p ds → IsTaintOf p.kind t → Reads a ds t
taint_reads n a b i p ds t e fed (inl still) x h = absurd (no_reads t x still h)
taint_reads n a b i p ds t e fed (inr memory) x h =
    let as_made : IsMakingAs _ b.built.shadow p.cell p.kind p.making = p.is_making.by_kind p.kind p.is.is_kind in
    let row : operand_row t Mem 0 ≡ operand_row p.cell p.kind 0 = as_made.stores.addresses t (ap is_memory memory.0) e in
    let here : counted t ≡ passing_bits p.cell p.kind = counted_is t Mem memory.1 ∙ row ∙ sym (ap (λ (r : Role). passing_by p.cell p.kind r) memory.0) in
    (fed x (subst (λ (bits : List RawBit). Has (nets_in bits) x) here h)).0

taint_in_turn : (n a : Raw) (b : Building n a) (i : ℕ) (p : IsPart n a b i) (ds : List ℕ) (o : Option RawCell) → p.making.taint ≡ o → IsFed n a b i p ds → InTurn a ds (option_to_list o)
taint_in_turn n a b i p ds None e fed = tt
taint_in_turn n a b i p ds (Some t) e fed = (taint_reads n a b i p ds t e fed (is_taint n p.cell p.kind p.making t p.is.is_kind p.is_making.block e), tt)

pub each_plain : (cs : List RawCell) (c : RawCell) → AllByRecursion IsPlainCell cs → Has cs c → IsPlainCell c
each_plain [] c h k = absurd k
each_plain (d ∷ ds) c h (inl e) = subst IsPlainCell e h.0
each_plain (d ∷ ds) c h (inr k) = each_plain ds c h.1 k

pub group_in_turn : (n a : Raw) (b : Building n a) (i : ℕ) (p : IsPart n a b i) (ds : List ℕ) → IsFed n a b i p ds → InTurn a ds (group_of p.cell p.making)
group_in_turn n a b i p ds fed =
    let taints : List RawCell = option_to_list p.making.taint in
    let one : List ℕ = ds ++ drives p.cell in
    let two : List ℕ = one ++ flat_map drives taints in
    let as_made = p.is_making.by_kind p.kind p.is.is_kind in
    let fed_one : IsFed n a b i p one = λ x h. both_more a b.built.shadow ds one x (λ y k. inr (Has-left ds (drives p.cell) y k)) (fed x h) in
    let showing : InTurn a two p.making.showing =
    plain_in_turn a two (known_for_showing b.built.shadow p.cell p.kind p.making) p.making.showing
    (λ c k. (each_plain (p.making.showing ++ p.making.storing) c p.is_making.plain (Has-left p.making.showing p.making.storing c k)).computes)
    (λ y k. showing_known n a b i p one two y fed_one (λ z q. Has-left one (flat_map drives taints) z q) (λ z q. Has-right one (flat_map drives taints) z q) k)
    as_made.reads_for_showing in (
      λ x h. (fed x (subst (λ (bits : List RawBit). Has (nets_in bits) x) (ap (counted_by p.cell) p.is.is_kind) h)).0,
      in_turn_append a one taints p.making.showing (taint_in_turn n a b i p one p.making.taint refl fed_one) showing,
    )

-- after them what the cell drives is known with its taint
pub group_shows : (n a : Raw) (b : Building n a) (i : ℕ) (p : IsPart n a b i) (ds : List ℕ) (x : ℕ) → IsFed n a b i p ds → Has (drives p.cell) x
    → KnownBoth a b.built.shadow (ds ++ flat_map drives (group_of p.cell p.making)) x
group_shows n a b i p ds x fed h =
    let taints : List RawCell = option_to_list p.making.taint in
    let new : List ℕ = drives p.cell ++ flat_map drives (taints ++ p.making.showing) in
    let es : List ℕ = ds ++ new in
    let split : flat_map drives (taints ++ p.making.showing) ≡ flat_map drives taints ++ flat_map drives p.making.showing = flat_map-append drives taints p.making.showing in
    let as_made = p.is_making.by_kind p.kind p.is.is_kind in
    let known : List ℕ = known_for_showing b.built.shadow p.cell p.kind p.making ++ flat_map drives p.making.showing in
    let later : (z : ℕ) → Has (flat_map drives (taints ++ p.making.showing)) z → Has es z = λ z k. Has-right ds new z (Has-right (drives p.cell) (flat_map drives (taints ++ p.making.showing)) z k) in (
      inr (Has-right ds new x (Has-left (drives p.cell) (flat_map drives (taints ++ p.making.showing)) x h)),
      λ y e. elim (Has-append (known_for_showing b.built.shadow p.cell p.kind p.making) (flat_map drives p.making.showing) y (known_net known (b.built.shadow x) y (known_taint known b.built.shadow (output_bits p.cell) x as_made.shown h) e)) [
        | inl l ↦ showing_known n a b i p ds es y fed (λ z k. Has-left ds new z k) (λ z k. later z (rw split (Has-left (flat_map drives taints) (flat_map drives p.making.showing) z k))) l
        | inr r ↦ inr (later y (rw split (Has-right (flat_map drives taints) (flat_map drives p.making.showing) y r)))
      ],
    )
