-- Which cell drives a net number of a module: at most one, and none where an input port holds the number.
use Rattle.std.specs.Prelude.{ℕ, ◌/◌, ◌%◌, ◌≡◌, Bool, true, false, List, [], ◌∷◌, filter, Option, Some, None, refl}
use Rattle.std.specs.List.{flat_map}
use Rattle.std.proofs.Common.{sym, ap, ◌∙◌, inl, inr, subst}
use Rattle.cif_defs.specs.Kinds.{role_of}
use Rattle.cif_defs.specs.Table.{kind_of, outputs_of}
use Rattle.cif_defs.specs.RawModule.{bits_by, net_numbers, nets_in, output_bits, port_bits}
use Rattle.cif_defs.specs.Accepted.{driven, driver_in, is_input}
use Rattle.cif_defs.specs.Loop.{is_passing}
use Rattle.cif_defs.specs.declared.kinds.Kind.{Kind}
use Rattle.cif_defs.specs.declared.kinds.Kind.TheVariants.{ScopeInfo}
use Rattle.cif_defs.specs.declared.kinds.Role.{Role}
use Rattle.cif_defs.specs.declared.kinds.Role.TheVariants.{Combinational, PlainRegister, ResetRegister, MemoryBlock, CarriedOver}
use Rattle.cif_defs.specs.declared.nets.Driver.{Driver}
use Rattle.cif_defs.specs.declared.nets.Driver.TheVariants.{Input, Output, Register, Read, Clock}
use Rattle.cif_defs.specs.declared.raw_module.RawBit.{RawBit}
use Rattle.cif_defs.specs.declared.raw_module.RawBit.TheVariants.{Net, Zero, One, X, Z}
use Rattle.cif_defs.specs.declared.raw_module.RawCell.{RawCell}
use Rattle.cif_defs.specs.declared.raw_module.Raw.{Raw}
use Rattle.cif_augment.specs.Names.{has_role}
use Rattle.cif_emit.specs.Emitted.{drives}
use Rattle.cif_nets.proofs.Places.{At, At-has, At-same, Has, Has-append, Has-nets}
use Rattle.cif_nets.proofs.Driven.{CellIs, PortBit, driver_once, driven_by_input, driven_by_output, driven_by_read, driven_by_register, word_width}
use Rattle.cif_nets.proofs.Passed.{Passed, driven_once}
use Rattle.cif_raw_runs.proofs.Numbers.{number_of_output}

-- ---- what stands in lists that are joined, and numbers among bits

pub from_flat_map : {A B : Type 0} (f : A → List B) (xs : List A) (y : B) → Has (flat_map f xs) y → (x : A) × Has xs x × Has (f x) y
from_flat_map f [] y h = absurd h
from_flat_map f (x ∷ xs) y h = elim (Has-append (f x) (flat_map f xs) y h) [
  | inl a ↦ (x, inl refl, a)
  | inr b ↦ (let rest = from_flat_map f xs y b in (rest.0, inr rest.1, rest.2))
]

pub has_net : (bits : List RawBit) (x : ℕ) → Has (nets_in bits) x → Has bits (Net x)
has_net [] x h = absurd h
has_net (Net y ∷ bits) x (inl e) = inl (ap Net e)
has_net (Net y ∷ bits) x (inr h) = inr (has_net bits x h)
has_net (Zero ∷ bits) x h = inr (has_net bits x h)
has_net (One ∷ bits) x h = inr (has_net bits x h)
has_net (X ∷ bits) x h = inr (has_net bits x h)
has_net (Z ∷ bits) x h = inr (has_net bits x h)

pub nets_of_bit : (bits : List RawBit) (y : ℕ) → Has bits (Net y) → Has (nets_in bits) y
nets_of_bit bits y h = (let at = At-has bits (Net y) h in Has-nets bits at.0 y at.1)

-- ---- the cell that a driver names

abbrev owner : Driver → Option ℕ
owner (Input p i) = None
owner (Output c p i) = Some c
owner (Register c i) = Some c
owner (Read c q i) = Some c
owner Clock = None

record IsOwned (raw : Raw) (c x : ℕ) : Type 0 where
  driver : Driver
  has : Has (driven raw) (x, driver)
  own : owner driver ≡ Some c

no_outputs : (k : Kind) → role_of k ≡ CarriedOver → outputs_of k ≡ []
unfolding outputs_of
no_outputs ScopeInfo e = refl
no_outputs _ e = absurd (cc)

owned_by : (raw : Raw) (c : ℕ) (cell : RawCell) (k : Kind) (x : ℕ) (role : Role) → CellIs raw c cell k → role_of k ≡ role → Has (output_bits cell) (Net x) → IsOwned raw c x
owned_by raw c cell k x Combinational is e h =
    let out : Has (flat_map (port_bits cell) (outputs_of k)) (Net x) = rw (← ap (bits_by outputs_of cell) is.is_kind) h in
    let row = from_flat_map (port_bits cell) (outputs_of k) (Net x) out in
    let p = At-has (outputs_of k) row.0 row.1 in
    let i = At-has (port_bits cell row.0) (Net x) row.2 in
    record { driver = Output c p.0 i.0; has = driven_by_output raw c p.0 i.0 x (record { cell = cell; kind = k; is = is; role = e; bit = record { row = row.0; at_row = p.1; at_bit = i.1 } }); own = refl }
owned_by raw c cell k x PlainRegister is e h =
    (let i = At-has (output_bits cell) (Net x) h in record { driver = Register c i.0; has = driven_by_register raw c i.0 x (record { cell = cell; kind = k; is = is; role = inl e; at_bit = i.1 }); own = refl })
owned_by raw c cell k x ResetRegister is e h =
    (let i = At-has (output_bits cell) (Net x) h in record { driver = Register c i.0; has = driven_by_register raw c i.0 x (record { cell = cell; kind = k; is = is; role = inr e; at_bit = i.1 }); own = refl })
owned_by raw c cell k x MemoryBlock is e h = (let i = At-has (output_bits cell) (Net x) h in record {
  driver = Read c (i.0 / word_width cell) (i.0 % word_width cell);
  has = driven_by_read raw c (i.0 / word_width cell) (i.0 % word_width cell) x (record { cell = cell; kind = k; is = is; role = e; place = i.0; port = refl; index = refl; at_bit = i.1 });
  own = refl;
})
owned_by raw c cell k x CarriedOver is e h =
    absurd (let none : output_bits cell ≡ [] = ap (bits_by outputs_of cell) is.is_kind ∙ ap (flat_map (port_bits cell)) (no_outputs k e) in let bad : ⊥ = subst (λ (bits : List RawBit). Has bits (Net x)) none h in bad)

owned_by_kind : (raw : Raw) (c : ℕ) (cell : RawCell) (o : Option Kind) (x : ℕ) → At raw.cells c cell → kind_of cell.kind ≡ o → Has (output_bits cell) (Net x) → IsOwned raw c x
owned_by_kind raw c cell None x at e h = absurd (let none : output_bits cell ≡ [] = ap (bits_by outputs_of cell) e in let bad : ⊥ = subst (λ (bits : List RawBit). Has bits (Net x)) none h in bad)
owned_by_kind raw c cell (Some k) x at e h = owned_by raw c cell k x (role_of k) (record { at_cell = at; is_kind = e }) refl h

owned : (raw : Raw) (c : ℕ) (cell : RawCell) (x : ℕ) → At raw.cells c cell → Has (drives cell) x → IsOwned raw c x
owned raw c cell x at h = owned_by_kind raw c cell (kind_of cell.kind) x at refl (has_net (output_bits cell) x h)

-- ---- one driver

same_driver : (raw : Raw) (x : ℕ) (d e : Driver) → Passed raw → Has (net_numbers raw) x → Has (driven raw) (x, d) → Has (driven raw) (x, e) → owner d ≡ owner e
same_driver raw x d e s n h k =
    let once = driven_once raw x s.drivers n in
    let one : driver_in (driven raw) x ≡ Some d = driver_once (driven raw) x d once h in
    let two : driver_in (driven raw) x ≡ Some e = driver_once (driven raw) x e once k in
    cc

-- two cells that drive a number are one
pub one_owner : (raw : Raw) (c : ℕ) (cell : RawCell) (d : ℕ) (other : RawCell) (x : ℕ) → Passed raw → At raw.cells c cell → At raw.cells d other → Has (drives cell) x → Has (drives other) x → c ≡ d
one_owner raw c cell d other x s at to h k =
    let one = owned raw c cell x at h in
    let two = owned raw d other x to k in
    let same : owner one.driver ≡ owner two.driver = same_driver raw x one.driver two.driver s (number_of_output raw c cell x at h) one.has two.has in
    let own : owner one.driver ≡ Some c = one.own in
    let other_own : owner two.driver ≡ Some d = two.own in
    cc

-- ---- numbers that no passing cell drives

abbrev pub passes : RawCell → Bool
passes c = has_role is_passing c

abbrev pub NonePasses : Raw → ℕ → Type 0
NonePasses raw x = (d : RawCell) → Has raw.cells d → Has (drives d) x → passes d ≡ true → ⊥

pub none_at_cell : (raw : Raw) (c : RawCell) (x : ℕ) → Passed raw → Has raw.cells c → Has (drives c) x → passes c ≡ false → NonePasses raw x
none_at_cell raw c x s at h e d to k f =
    let one = At-has raw.cells c at in
    let two = At-has raw.cells d to in
    let same : one.0 ≡ two.0 = one_owner raw one.0 c two.0 d x s one.1 two.1 h k in
    let here : At raw.cells two.0 c = rw (← same) one.1 in
    let cells : c ≡ d = At-same raw.cells two.0 c d here two.1 in
    let no : passes d ≡ false = ap passes (sym cells) ∙ e in
    cc

pub none_at_port : (raw : Raw) (q i x : ℕ) → Passed raw → PortBit (filter is_input raw.ports) q i x → NonePasses raw x
none_at_port raw q i x s b d to k f =
    let two = At-has raw.cells d to in
    let own = owned raw two.0 d x two.1 k in
    let same : owner (Input q i) ≡ owner own.driver = same_driver raw x (Input q i) own.driver s (number_of_output raw two.0 d x two.1 k) (driven_by_input raw q i x b) own.has in
    let named : owner own.driver ≡ Some two.0 = own.own in
    let none : owner (Input q i) ≡ None = refl in
    cc
