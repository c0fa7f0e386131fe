-- Cells in a list, each of which reads what earlier ones drive, or what no passing cell drives.
use Rattle.std.specs.Prelude.{ℕ, zero, suc, ◌<◌, ◌≡◌, ◌⊎◌, ◌==◌, true, false, List, [], ◌∷◌, ◌++◌, Option, Some, None, option_map, refl}
use Rattle.std.specs.List.{flat_map}
use Rattle.std.proofs.Common.{arith, ap, inl, inr, append_assoc, append-nil}
use Rattle.std.proofs.lemmas.Bool.{and_parts, eqb-true}
use Rattle.cif_defs.specs.Kinds.{role_of}
use Rattle.cif_defs.specs.Table.{kind_of}
use Rattle.cif_defs.specs.RawModule.{nets_in, operand_bits}
use Rattle.cif_defs.specs.Loop.{is_passing}
use Rattle.cif_defs.specs.declared.kinds.Kind.{Kind}
use Rattle.cif_defs.specs.declared.kinds.Role.{Role}
use Rattle.cif_defs.specs.declared.kinds.Role.TheVariants.{Combinational, PlainRegister, ResetRegister, MemoryBlock, CarriedOver}
use Rattle.cif_defs.specs.declared.raw_module.RawBit.{RawBit}
use Rattle.cif_defs.specs.declared.raw_module.RawBit.TheVariants.{Net, Zero, One, X, Z}
use Rattle.cif_defs.specs.declared.raw_module.RawCell.{RawCell}
use Rattle.cif_defs.specs.declared.raw_module.Raw.{Raw}
use Rattle.cif_checks.specs.Checks.{has_number}
use Rattle.cif_augment.specs.Names.{has_role_by}
use Rattle.cif_emit.specs.Emitted.{ReadInOrder, are_known, drives}
use Rattle.cif_nets.proofs.Places.{At, Has, Has-any, Has-append, Has-left, Has-right}
use Rattle.cif_built_order.proofs.Owners.{NonePasses, passes}
use Rattle.cif_built_order.proofs.Feeding.{counted, counted_by, passing_by}

-- ---- what may be read once some numbers are driven

abbrev pub Known : Raw → List ℕ → ℕ → Type 0
Known a ds x = NonePasses a x ⊎ Has ds x

-- the same of a bit
abbrev pub KnownBit : Raw → List ℕ → RawBit → Type 0
KnownBit a ds b = (y : ℕ) → b ≡ Net y → Known a ds y

pub known_more : (a : Raw) (ds es : List ℕ) (x : ℕ) → ((y : ℕ) → Has ds y → Known a es y) → Known a ds x → Known a es x
known_more a ds es x h (inl k) = inl k
known_more a ds es x h (inr k) = h x k

pub known_right : (a : Raw) (ds es : List ℕ) (x : ℕ) → Known a ds x → Known a (ds ++ es) x
known_right a ds es x h = known_more a ds (ds ++ es) x (λ y k. inr (Has-left ds es y k)) h

-- a number and the bit of its taint
abbrev pub KnownBoth : Raw → (ℕ → RawBit) → List ℕ → ℕ → Type 0
KnownBoth a shadow ds x = Known a ds x × KnownBit a ds (shadow x)

pub both_more : (a : Raw) (shadow : ℕ → RawBit) (ds es : List ℕ) (x : ℕ) → ((y : ℕ) → Has ds y → Known a es y) → KnownBoth a shadow ds x → KnownBoth a shadow es x
both_more a shadow ds es x h k = (known_more a ds es x h k.0, λ y e. known_more a ds es y h (k.1 y e))

pub both_right : (a : Raw) (shadow : ℕ → RawBit) (ds es : List ℕ) (x : ℕ) → KnownBoth a shadow ds x → KnownBoth a shadow (ds ++ es) x
both_right a shadow ds es x k = both_more a shadow ds (ds ++ es) x (λ y h. inr (Has-left ds es y h)) k

-- ---- cells in turn

abbrev pub Reads : Raw → List ℕ → RawCell → Type 0
Reads a ds c = (x : ℕ) → Has (nets_in (counted c)) x → Known a ds x

abbrev pub InTurn : Raw → List ℕ → List RawCell → Type 0
InTurn a ds [] = Unit {0}
InTurn a ds (c ∷ cs) = Reads a ds c × InTurn a (ds ++ drives c) cs

more_after : (a : Raw) (ds es fs : List ℕ) → ((y : ℕ) → Has ds y → Known a es y) → (y : ℕ) → Has (ds ++ fs) y → Known a (es ++ fs) y
more_after a ds es fs h y k = elim (Has-append ds fs y k) [ inl l ↦ known_right a es fs y (h y l) | inr r ↦ inr (Has-right es fs y r) ]

pub in_turn_more : (a : Raw) (ds es : List ℕ) (cs : List RawCell) → ((y : ℕ) → Has ds y → Known a es y) → InTurn a ds cs → InTurn a es cs
in_turn_more a ds es [] h t = tt
in_turn_more a ds es (c ∷ cs) h t = (λ x k. known_more a ds es x h (t.0 x k), in_turn_more a (ds ++ drives c) (es ++ drives c) cs (more_after a ds es (drives c) h) t.1)

pub in_turn_append : (a : Raw) (ds : List ℕ) (cs es : List RawCell) → InTurn a ds cs → InTurn a (ds ++ flat_map drives cs) es → InTurn a ds (cs ++ es)
in_turn_append a ds [] es t u = rw (append-nil ds) at u
in_turn_append a ds (c ∷ cs) es t u = (t.0, in_turn_append a (ds ++ drives c) cs es t.1 (rw (append_assoc ds (drives c) (flat_map drives cs)) u))

-- what the cell at a place reads
abbrev pub EarlierDrives : List RawCell → ℕ → ℕ → Type 0
EarlierDrives cs j x = (i : ℕ) × (d : RawCell) × (i < j) × At cs i d × Has (drives d) x

pub read_in_turn : (a : Raw) (ds : List ℕ) (cs : List RawCell) (j : ℕ) (e : RawCell) (x : ℕ) → InTurn a ds cs → At cs j e → Has (nets_in (counted e)) x → Known a ds x ⊎ EarlierDrives cs j x
read_in_turn a ds [] j e x t at h = absurd at
read_in_turn a ds (c ∷ cs) zero e x t at h = inl (t.0 x (rw at h))
read_in_turn a ds (c ∷ cs) (suc j) e x t at h = elim (read_in_turn a (ds ++ drives c) cs j e x t.1 at h) [
  | inl k ↦ elim k [
    | inl n ↦ inl (inl n)
    | inr r ↦ elim (Has-append ds (drives c) x r) [ inl l ↦ inl (inr l) | inr m ↦ inr (0, c, omega arith, refl, m) ]
  ]
  | inr k ↦ inr (suc k.0, k.1, (let l : k.0 < j = k.2 in omega arith), k.3, k.4)
]

-- ---- cells that pass nothing read nothing that counts

no_reads_by : (role : Role) (c : RawCell) (k : Kind) (x : ℕ) → is_passing role ≡ false → Has (nets_in (passing_by c k role)) x → ⊥
no_reads_by PlainRegister c k x e h = h
no_reads_by CarriedOver c k x e h = h
no_reads_by Combinational c k x e h = absurd (cc)
no_reads_by ResetRegister c k x e h = absurd (cc)
no_reads_by MemoryBlock c k x e h = absurd (cc)

no_reads_of : (c : RawCell) (o : Option Kind) (x : ℕ) → has_role_by is_passing o ≡ false → Has (nets_in (counted_by c o)) x → ⊥
no_reads_of c None x e h = h
no_reads_of c (Some k) x e h = no_reads_by (role_of k) c k x e h

pub no_reads : (c : RawCell) (x : ℕ) → passes c ≡ false → Has (nets_in (counted c)) x → ⊥
no_reads c x e h = no_reads_of c (kind_of c.kind) x e h

-- ---- cells that compute

pub has_if_number : (known : List ℕ) (x : ℕ) → has_number x known ≡ true → Has known x
has_if_number known x h = (let found = Has-any (λ (y : ℕ). y == x) known h in let same : found.0 ≡ x = eqb-true found.0 x found.2 in rw same at found.1)

-- known bits
pub known_if : (known : List ℕ) (bits : List RawBit) (x : ℕ) → are_known known bits ≡ true → Has (nets_in bits) x → Has known x
known_if known [] x h k = absurd k
known_if known (Net y ∷ bits) x h (inl e) = (let here : Has known y = has_if_number known y (and_parts (has_number y known) (are_known known bits) h).0 in rw e at here)
known_if known (Net y ∷ bits) x h (inr k) = known_if known bits x (and_parts (has_number y known) (are_known known bits) h).1 k
known_if known (Zero ∷ bits) x h k = known_if known bits x h k
known_if known (One ∷ bits) x h k = known_if known bits x h k
known_if known (X ∷ bits) x h k = absurd (cc)
known_if known (Z ∷ bits) x h k = absurd (cc)

plain_by : (c : RawCell) (o : Option Kind) → kind_of c.kind ≡ o → option_map role_of o ≡ Some Combinational → counted_by c o ≡ operand_bits c
plain_by c None e h = absurd (cc)
plain_by c (Some k) e h = (let role : role_of k ≡ Combinational = cc in ap (λ (r : Role). passing_by c k r) role)

pub plain_counted : (c : RawCell) → option_map role_of (kind_of c.kind) ≡ Some Combinational → counted c ≡ operand_bits c
plain_counted c h = plain_by c (kind_of c.kind) refl h

pub plain_in_turn : (a : Raw) (ds known : List ℕ) (cs : List RawCell) → ((c : RawCell) → Has cs c → option_map role_of (kind_of c.kind) ≡ Some Combinational) → ((y : ℕ) → Has known y → Known a ds y)
    → ReadInOrder known cs → InTurn a ds cs
plain_in_turn a ds known [] plain h r = tt
plain_in_turn a ds known (c ∷ cs) plain h r = (
  λ x k. h x (known_if known (operand_bits c) x r.0 (rw (plain_counted c (plain c (inl refl))) at k)),
  plain_in_turn a (ds ++ drives c) (known ++ drives c) cs (λ d k. plain d (inr k)) (more_after a known ds (drives c) h) r.1,
)
