-- Where each net bit has what its driver gives, each net number has what is given to it, and back: for values and for taints
-- alike.
use Rattle.std.specs.Prelude.{ℕ, ◌≤◌, ◌≡◌, ◌⊎◌, Bool, true, false, map, filter, length, get_or, unwrap_or, refl}
use Rattle.std.proofs.Common.{arith, sym, ap, ◌∙◌, cond, inl, inr}
use Rattle.std.proofs.lemmas.List.{get_or_past, length-map}
use Rattle.cif_defs.specs.Kinds.{role_of}
use Rattle.cif_defs.specs.RawModule.{net_numbers}
use Rattle.cif_defs.specs.Netlist.{driver_of}
use Rattle.cif_defs.specs.Accepted.{driver_in, driven, driver_of_number, is_clock, is_input, netlist_of, no_bit, place_of}
use Rattle.cif_defs.specs.declared.kinds.Kind.{Kind}
use Rattle.cif_defs.specs.declared.nets.Driver.{Driver}
use Rattle.cif_defs.specs.declared.nets.Driver.TheVariants.{Input, Clock}
use Rattle.cif_defs.specs.declared.raw_module.RawBit.TheVariants.{Net}
use Rattle.cif_defs.specs.declared.raw_module.RawPort.{RawPort}
use Rattle.cif_defs.specs.declared.raw_module.RawCell.{RawCell}
use Rattle.cif_defs.specs.declared.raw_module.Raw.{Raw}
use Rattle.cif_defs.proofs.Levels.{IsSettled, rank_of, unique}
use Rattle.cif_nets.proofs.Places.{At, Has, At-get, At-map, Has-at}
use Rattle.cif_nets.proofs.Driven.{CellIs}
use Rattle.cif_nets.proofs.Rising.{At-place}
use Rattle.cif_nets.proofs.Passed.{Passed, passes_form}
use Rattle.cif_nets.proofs.Wired.{at_or_past, numbers_rise, place_is}
use Rattle.cif_checks.specs.Checks.{IsWellFormed}
use Rattle.cif_raw_runs.specs.Given.{IsGiven}
use Rattle.cif_raw_runs.proofs.Numbers.{at_contained, contained_at, contained_has, has_contained, input_at_place, input_contained, net_at, number_of_port}
use Rattle.cif_raw_runs.proofs.ClockAlone.{only_clock}
use Rattle.cif_raw_runs.proofs.Drivers.{DrivenBy, by_cell, by_clock, by_port, driven_by, driver_at_place, driver_of_input, driver_of_shown, shown_driver}

-- what drivers give is what ports hold and cells give
pub record Agrees (raw : Raw) (give : Driver → Bool) (held : RawPort → ℕ → Bool) (given : RawCell → Kind → ℕ → ℕ → Bool) : Type 0 where
  pub input : (q : ℕ) (port : RawPort) (i : ℕ) → At (filter is_input raw.ports) q port → give (Input q i) ≡ held port i
  pub cell : (c : ℕ) (cell : RawCell) (k : Kind) (p i : ℕ) → CellIs raw c cell k → give (shown_driver (role_of k) c p i) ≡ given cell k p i
  pub clock : give Clock ≡ false

-- each net number has what its driver gives
abbrev pub IsDrivenTo : Raw → (ℕ → Bool) → (Driver → Bool) → (ℕ → Bool) → Type 0
IsDrivenTo raw cleared give v = (x : ℕ) → Has (net_numbers raw) x → v x ≡ cond (cleared x) false (give (driver_of_number raw x))

cleared_clock : (b : Bool) → cond b false false ≡ false
cleared_clock true = refl
cleared_clock false = refl

clock_drives : (raw : Raw) (x : ℕ) → is_clock raw x ≡ true → driver_of_number raw x ≡ Clock
clock_drives raw x e = ap (λ (c : Bool). cond c Clock (unwrap_or (driver_in (driven raw) x) Clock)) e

pub given_if_driven : (raw : Raw) (cleared : ℕ → Bool) (give : Driver → Bool) (held : RawPort → ℕ → Bool) (given : RawCell → Kind → ℕ → ℕ → Bool) (v : ℕ → Bool) → Passed raw → Agrees raw give held given → IsDrivenTo raw cleared give v
    → IsGiven raw cleared held given v
given_if_driven raw cleared give held given v s a h = record {
  input = λ port i x port_in is free at.
      (let place = input_at_place raw port port_in is in
      let bit : At port.bits i (Net x) = net_at port.bits i x at in
      let has = at_contained raw.ports port port_in in
      let number : Has (net_numbers raw) x = number_of_port raw has.0 i port x has.1 bit in
      h x number ∙ ap (λ (d : Driver). cond (cleared x) false (give d)) (driver_of_input raw place.0 i x port s place.1 bit number free) ∙ ap (λ b. cond (cleared x) false b) (a.input place.0 port i place.1));
  cell = λ c k p i x cell_in kind at.
      (let place = at_contained raw.cells c cell_in in
      let is : CellIs raw place.0 c k = record { at_cell = place.1; is_kind = kind } in
      let driver = driver_of_shown raw place.0 c k p i x s is at in
      h x driver.0 ∙ ap (λ (d : Driver). cond (cleared x) false (give d)) driver.1 ∙ ap (λ b. cond (cleared x) false b) (a.cell place.0 c k p i is));
  clock = λ x number e.
      h x (has_contained (net_numbers raw) x number) ∙ ap (λ (d : Driver). cond (cleared x) false (give d)) (clock_drives raw x e) ∙ ap (λ b. cond (cleared x) false b) a.clock ∙ cleared_clock (cleared x);
}

driven_to : (raw : Raw) (cleared : ℕ → Bool) (give : Driver → Bool) (held : RawPort → ℕ → Bool) (given : RawCell → Kind → ℕ → ℕ → Bool) (v : ℕ → Bool) (x : ℕ) → Agrees raw give held given → IsGiven raw cleared held given v → Has (net_numbers raw) x
    → (driver_of_number raw x ≡ Clock → is_clock raw x ≡ true) → DrivenBy raw x → v x ≡ cond (cleared x) false (give (driver_of_number raw x))
driven_to raw cleared give held given v x a g number alone (by_port q i port at bit free e) =
    let port_in = input_contained raw q port at in
    g.input port i x port_in.0 port_in.1 free (At-get port.bits i (Net x) no_bit bit)
    ∙ ap (λ b. cond (cleared x) false b) (sym (a.input q port i at)) ∙ ap (λ (d : Driver). cond (cleared x) false (give d)) (sym e)
driven_to raw cleared give held given v x a g number alone (by_cell h) =
    g.cell h.cell h.kind h.word h.index x (contained_at raw.cells h.number h.cell h.is.at_cell) h.is.is_kind h.place
    ∙ ap (λ b. cond (cleared x) false b) (sym (a.cell h.number h.cell h.kind h.word h.index h.is)) ∙ ap (λ (d : Driver). cond (cleared x) false (give d)) (sym h.same)
driven_to raw cleared give held given v x a g number alone (by_clock e) =
    g.clock x (contained_has (net_numbers raw) x number) (alone e) ∙ sym (cleared_clock (cleared x)) ∙ ap (λ b. cond (cleared x) false b) (sym a.clock) ∙ ap (λ (d : Driver). cond (cleared x) false (give d)) (sym e)

pub driven_if_given : (raw : Raw) (cleared : ℕ → Bool) (give : Driver → Bool) (held : RawPort → ℕ → Bool) (given : RawCell → Kind → ℕ → ℕ → Bool) (v : ℕ → Bool) → IsWellFormed raw → Agrees raw give held given → IsGiven raw cleared held given v
    → IsDrivenTo raw cleared give v
driven_if_given raw cleared give held given v s a g = λ x number. driven_to raw cleared give held given v x a g number (only_clock raw x s (contained_has (net_numbers raw) x number)) (driven_by raw x (passes_form raw s))

-- ---- only one assignment has what is given

-- values of net numbers as values of net bits
abbrev pub by_bits : Raw → (ℕ → Bool) → ℕ → Bool
by_bits raw v b = get_or (map v (net_numbers raw)) b false

pub by_bits_at : (raw : Raw) (v : ℕ → Bool) (x : ℕ) → Has (net_numbers raw) x → v x ≡ by_bits raw v (place_of (net_numbers raw) x)
by_bits_at raw v x h = sym (At-map v (net_numbers raw) (place_of (net_numbers raw) x) x false (At-place (net_numbers raw) x (numbers_rise raw) h))

bits_past : (raw : Raw) (v : ℕ → Bool) (b : ℕ) → length (net_numbers raw) ≤ b → by_bits raw v b ≡ false
bits_past raw v b l = get_or_past (map v (net_numbers raw)) b false (omega (arith, length-map (net_numbers raw) v))

driver_past : (raw : Raw) (b : ℕ) → length (net_numbers raw) ≤ b → driver_of (netlist_of raw) b ≡ Clock
unfolding netlist_of
driver_past raw b l = get_or_past (map (driver_of_number raw) (net_numbers raw)) b Clock (omega (arith, length-map (net_numbers raw) (driver_of_number raw)))

bits_driven : (raw : Raw) (released : ℕ → Bool) (give : Driver → Bool) (v : ℕ → Bool) (b : ℕ) → IsDrivenTo raw (λ x. released (place_of (net_numbers raw) x)) give v → give Clock ≡ false
    → ((x : ℕ) × At (net_numbers raw) b x) ⊎ (length (net_numbers raw) ≤ b) → by_bits raw v b ≡ cond (released b) false (give (driver_of (netlist_of raw) b))
bits_driven raw released give v b h z (inl a) =
    At-map v (net_numbers raw) b a.0 false a.1 ∙ h a.0 (Has-at (net_numbers raw) b a.0 a.1)
    ∙ ap (λ (j : ℕ). cond (released j) false (give (driver_of_number raw a.0))) (place_is raw b a.0 a.1)
    ∙ ap (λ (d : Driver). cond (released b) false (give d)) (sym (driver_at_place raw b a.0 a.1))
bits_driven raw released give v b h z (inr l) =
    bits_past raw v b l ∙ sym (cleared_clock (released b)) ∙ ap (λ y. cond (released b) false y) (sym z) ∙ ap (λ (d : Driver). cond (released b) false (give d)) (sym (driver_past raw b l))

-- so an assignment that has what is given under it is the final one, where that has what is given under it
pub given_is_final : (raw : Raw) (r : ℕ → ℕ) (released : ℕ → Bool) (give : (ℕ → Bool) → Driver → Bool) (final : ℕ → Bool) (held : RawPort → ℕ → Bool) (given : RawCell → Kind → ℕ → ℕ → Bool) (v : ℕ → Bool) (top x : ℕ) → IsWellFormed raw
    → IsSettled (netlist_of raw) r (λ u b. cond (released b) false (give u (driver_of (netlist_of raw) b))) final
    → ((b : ℕ) (y z : ℕ → Bool) → rank_of (netlist_of raw) r b ≤ 0 → give y (driver_of (netlist_of raw) b) ≡ give z (driver_of (netlist_of raw) b))
    → ((b : ℕ) → rank_of (netlist_of raw) r b ≤ top)
    → Agrees raw (give (by_bits raw v)) held given → IsGiven raw (λ y. released (place_of (net_numbers raw) y)) held given v → Has (net_numbers raw) x → v x ≡ final (place_of (net_numbers raw) x)
given_is_final raw r released give final held given v top x s h base low a g number =
    let driven = driven_if_given raw (λ y. released (place_of (net_numbers raw) y)) (give (by_bits raw v)) held given v s a g in
    let b : ℕ = place_of (net_numbers raw) x in
    by_bits_at raw v x number
    ∙ unique (netlist_of raw) r (λ u c. cond (released c) false (give u (driver_of (netlist_of raw) c))) final (by_bits raw v) h (λ c y z l. ap (λ t. cond (released c) false t) (base c y z l))
    (λ c. bits_driven raw released (give (by_bits raw v)) v c driven a.clock (at_or_past (net_numbers raw) c)) top b (low b)
