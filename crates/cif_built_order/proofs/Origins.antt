-- Where what a cell of the original module reads comes from: from an input port or the clock, and then it is known with its
-- taint from the beginning, or from a cell.
use Rattle.std.specs.Prelude.{ℕ, zero, suc, ◌*◌, ◌≡◌, ◌⊎◌, ◌==◌, Bool, true, false, not, ◌&&◌, List, [], ◌∷◌, ◌++◌, map, filter, get_or, take, drop, Contains, Some, None, refl}
use Rattle.std.specs.List.{list_any, flat_map}
use Rattle.std.proofs.Common.{arith, sym, ap, ◌∙◌, inl, inr, subst}
use Rattle.std.proofs.lemmas.Bool.{and_parts, eqb-true, not-false}
use Rattle.std.proofs.lemmas.List.{get_or_past, length-map}
use Rattle.std.proofs.lemmas.List.Sorted.{Contains-permutation}
use Rattle.cif_defs.specs.Kinds.{role_of}
use Rattle.cif_defs.specs.Table.{kind_of, outputs_of}
use Rattle.cif_defs.specs.RawModule.{clock_bits, net_numbers, nets_in, operand_bits, output_bits, port_bits}
use Rattle.cif_defs.specs.Accepted.{all_clock_bits, driven, driver_in, is_clock, is_input, no_bit}
use Rattle.cif_defs.specs.declared.kinds.Kind.{Kind}
use Rattle.cif_defs.specs.declared.kinds.Role.{Role}
use Rattle.cif_defs.specs.declared.kinds.Role.TheVariants.{Combinational, PlainRegister, ResetRegister, MemoryBlock, CarriedOver}
use Rattle.cif_defs.specs.declared.nets.Driver.TheVariants.{Input}
use Rattle.cif_defs.specs.declared.raw_module.RawBit.{RawBit}
use Rattle.cif_defs.specs.declared.raw_module.RawBit.TheVariants.{Net, Zero, One, X, Z}
use Rattle.cif_defs.specs.declared.raw_module.RawPort.{RawPort}
use Rattle.cif_defs.specs.declared.raw_module.RawCell.{RawCell}
use Rattle.cif_defs.specs.declared.raw_module.Raw.{Raw}
use Rattle.cif_checks.specs.Checks.{ClockUse, clock_fault, clock_uses, clocks_fault, data_fault, fault_if, first_fault, is_clock_input, is_only_bit, is_same_bit, uses_fault}
use Rattle.cif_checks.specs.declared.fault.BuildFault.TheVariants.{NoClockInput, TwoClocks}
use Rattle.cif_augment.specs.Names.{data_ports, is_clock_bit, is_data_port}
use Rattle.cif_emit.specs.Emitted.{drives}
use Rattle.cif_built.specs.Built.{IsShadowPort, is_cleared}
use Rattle.cif_nets.proofs.Places.{At, At-get, At-has, At-map, At-same, At-subst, Has, Has-any, Has-at, Has-filter, Has-left, Has-nets, Has-right}
use Rattle.cif_nets.proofs.Driven.{driver_once, driven_by_input, input_driven}
use Rattle.cif_nets.proofs.Passed.{Passed, all_uses, clock_is_first, clock_is_input, driven_once, first_passes, is_first, test_passes}
use Rattle.cif_nets.proofs.Wired.{at_or_past, nets_of_rows}
use Rattle.cif_raw_runs.specs.Given.{shown_bits, word_width}
use Rattle.cif_raw_runs.proofs.Numbers.{contained_has, has_contained, input_at_place, input_contained, net_at, number_of_cell, number_of_port}
use Rattle.cif_raw_runs.proofs.Drivers.{DrivenBy, by_cell, by_clock, by_port, driven_by}
use Rattle.cif_raw_runs.proofs.ClockAlone.{only_clock}
use Rattle.cif_built_order.proofs.Owners.{NonePasses, nets_of_bit, none_at_port}
use Rattle.cif_built_order.proofs.Turns.{KnownBit, KnownBoth}
use Rattle.cif_built_order.proofs.Parts.{Building, zip_at}

-- ---- what a cell shows it drives

has_take : {A : Type 0} (n : ℕ) (xs : List A) (x : A) → Has (take n xs) x → Has xs x
has_take zero xs x h = absurd h
has_take (suc n) [] x h = absurd h
has_take (suc n) (y ∷ ys) x (inl e) = inl e
has_take (suc n) (y ∷ ys) x (inr h) = inr (has_take n ys x h)

has_drop : {A : Type 0} (n : ℕ) (xs : List A) (x : A) → Has (drop n xs) x → Has xs x
has_drop zero xs x h = h
has_drop (suc n) [] x h = absurd h
has_drop (suc n) (y ∷ ys) x h = inr (has_drop n ys x h)

shown_by_role : (c : RawCell) (k : Kind) (role : Role) (p i x : ℕ) → kind_of c.kind ≡ Some k → get_or (shown_bits role c k p) i no_bit ≡ Net x → Has (drives c) x
shown_by_role c k Combinational p i x e h = elim (at_or_past (outputs_of k) p) [
  | inl a ↦ (let here : At (port_bits c a.0) i (Net x) = net_at (port_bits c a.0) i x (ap (λ (bits : List RawBit). get_or bits i no_bit) (sym (At-map (port_bits c) (outputs_of k) p a.0 [] a.1)) ∙ h) in
      let all : Has (nets_in (flat_map (port_bits c) (outputs_of k))) x = nets_of_rows c (outputs_of k) p a.0 x a.1 (Has-nets (port_bits c a.0) i x here) in
      rw e all)
  | inr l ↦ absurd (let none : get_or (map (port_bits c) (outputs_of k)) p [] ≡ [] = get_or_past (map (port_bits c) (outputs_of k)) p [] (omega (arith, length-map (outputs_of k) (port_bits c))) in
      let past : get_or (get_or (map (port_bits c) (outputs_of k)) p []) i no_bit ≡ X = ap (λ (bits : List RawBit). get_or bits i no_bit) none in
      cc)
]
shown_by_role c k PlainRegister p i x e h = Has-nets (output_bits c) i x (net_at (output_bits c) i x h)
shown_by_role c k ResetRegister p i x e h = Has-nets (output_bits c) i x (net_at (output_bits c) i x h)
shown_by_role c k MemoryBlock p i x e h =
    let row = take (word_width c) (drop (p * word_width c) (output_bits c)) in
    nets_of_bit (output_bits c) x (has_drop (p * word_width c) (output_bits c) (Net x) (has_take (word_width c) (drop (p * word_width c) (output_bits c)) (Net x) (Has-at row i (Net x) (net_at row i x h))))
shown_by_role c k CarriedOver p i x e h = absurd (cc)

-- ---- the clock stands alone at its port

same_clock : (ports : List RawPort) (b : RawBit) (bs : List RawBit) (x : ℕ) → is_first x (b ∷ bs) ≡ true → is_clock_input ports b ≡ true → is_clock_input ports (Net x) ≡ true
same_clock ports (Net y) bs x t h = rw (← eqb-true y x t) h
same_clock ports Zero bs x t h = absurd (cc)
same_clock ports One bs x t h = absurd (cc)
same_clock ports X bs x t h = absurd (cc)
same_clock ports Z bs x t h = absurd (cc)

first_use : (raw : Raw) (uses : List ClockUse) (bits : List RawBit) (x : ℕ) → map (λ (u : ClockUse). u.bit) uses ≡ bits → is_first x bits ≡ true → uses_fault raw uses ≡ None → is_clock_input raw.ports (Net x) ≡ true
first_use raw [] bits x e t h = absurd (let f : is_first x bits ≡ false = ap (is_first x) (sym e) in cc)
first_use raw (u ∷ us) bits x e t h =
    let all = first_passes (first_fault (clock_fault raw.ports u) (u ∷ us)) (data_fault raw u.bit) h in
    let here = first_passes (clock_fault raw.ports u u) (first_fault (clock_fault raw.ports u) us) all in
    let input : is_clock_input raw.ports u.bit ≡ true = not-false (is_clock_input raw.ports u.bit) (test_passes (not (is_clock_input raw.ports u.bit)) (NoClockInput u.user.name) (first_passes (fault_if (not (is_clock_input raw.ports u.bit)) (NoClockInput u.user.name)) (fault_if (not (is_same_bit u.bit u.bit && u.polarity == u.polarity)) (TwoClocks u.user.name)) here)) in
    same_clock raw.ports u.bit (map (λ (v : ClockUse). v.bit) us) x (ap (is_first x) e ∙ t) input

clock_input : (raw : Raw) (z : ℕ) → Passed raw → is_clock raw z ≡ true → is_clock_input raw.ports (Net z) ≡ true
unfolding clocks_fault
clock_input raw z s h = first_use raw (clock_uses raw) (all_clock_bits raw) z (all_uses raw.cells) (sym (clock_is_first raw z) ∙ h) s.clocks

only_at : (z : ℕ) (bits : List RawBit) (i x : ℕ) → is_only_bit z bits ≡ true → At bits i (Net x) → x ≡ z
only_at z [] i x h at = absurd at
only_at z (Net y ∷ []) zero x h at = (let same : y ≡ z = eqb-true y z h in let net : Net y ≡ Net x = at in cc)
only_at z (Net y ∷ []) (suc i) x h at = absurd at
only_at z (Net y ∷ b ∷ bs) i x h at = absurd (cc)
only_at z (Zero ∷ bs) i x h at = absurd (cc)
only_at z (One ∷ bs) i x h at = absurd (cc)
only_at z (X ∷ bs) i x h at = absurd (cc)
only_at z (Z ∷ bs) i x h at = absurd (cc)

first_at : (z : ℕ) (bits : List RawBit) → is_only_bit z bits ≡ true → At bits 0 (Net z)
first_at z [] h = absurd (cc)
first_at z (Net y ∷ []) h = ap Net (eqb-true y z h)
first_at z (Net y ∷ b ∷ bs) h = absurd (cc)
first_at z (Zero ∷ bs) h = absurd (cc)
first_at z (One ∷ bs) h = absurd (cc)
first_at z (X ∷ bs) h = absurd (cc)
first_at z (Z ∷ bs) h = absurd (cc)

-- what stands beside the clock is the clock
beside_clock : (raw : Raw) (q : ℕ) (port : RawPort) (i x j z : ℕ) → Passed raw → At (filter is_input raw.ports) q port → At port.bits i (Net x) → At port.bits j (Net z) → is_clock raw z ≡ true → x ≡ z
beside_clock raw q port i x j z s at bit beside h =
    let found = Has-any (λ (p : RawPort). is_input p && is_only_bit z p.bits) raw.ports (clock_input raw z s h) in
    let parts = and_parts (is_input found.0) (is_only_bit z found.0.bits) found.2 in
    let there = At-has (filter is_input raw.ports) found.0 (Has-filter is_input raw.ports found.0 found.1 parts.0) in
    let inside = input_contained raw q port at in
    let place = At-has raw.ports port (has_contained raw.ports port inside.0) in
    let number : Has (net_numbers raw) z = number_of_port raw place.0 j port z place.1 beside in
    let once = driven_once raw z s.drivers number in
    let one : driver_in (driven raw) z ≡ Some (Input q j) = driver_once (driven raw) z (Input q j) once (driven_by_input raw q j z (record { port = port; at_port = at; at_bit = beside })) in
    let two : driver_in (driven raw) z ≡ Some (Input there.0 0) =
    driver_once (driven raw) z (Input there.0 0) once (driven_by_input raw there.0 0 z (record { port = found.0; at_port = there.1; at_bit = first_at z found.0.bits parts.1 })) in
    let same : q ≡ there.0 = cc in
    let ports : port ≡ found.0 = At-same (filter is_input raw.ports) there.0 port found.0 (rw same at at) there.1 in
    only_at z found.0.bits i x parts.1 (At-subst port.bits found.0.bits i (Net x) (ap (λ (p : RawPort). p.bits) ports) bit)

clock_bit : (n : Raw) (b : RawBit) → is_clock_bit n b ≡ true → (z : ℕ) × (b ≡ Net z) × (is_clock n z ≡ true)
clock_bit n (Net z) h = (z, refl, h)
clock_bit n Zero h = absurd (cc)
clock_bit n One h = absurd (cc)
clock_bit n X h = absurd (cc)
clock_bit n Z h = absurd (cc)

no_clock_by : (n : Raw) (q : ℕ) (port : RawPort) (i x : ℕ) (b : Bool) → list_any (is_clock_bit n) port.bits ≡ b → Passed n → At (filter is_input n.ports) q port → At port.bits i (Net x) → is_clock n x ≡ false → not b ≡ true
no_clock_by n q port i x false e s at bit free = refl
no_clock_by n q port i x true e s at bit free = absurd (
    let found = Has-any (is_clock_bit n) port.bits e in
    let clock = clock_bit n found.0 found.2 in
    let j = At-has port.bits (Net clock.0) (subst (λ (b : RawBit). Has port.bits b) clock.1 found.1) in
    let same : x ≡ clock.0 = beside_clock n q port i x j.0 clock.0 s at bit j.1 clock.2 in
    let yes : is_clock n x ≡ true = ap (is_clock n) same ∙ clock.2 in
    cc)

-- ---- input ports

-- a port of the original module, and one of taint, are ports of the one that is built
port_there : (n a : Raw) (b : Building n a) (port : RawPort) → Has (n.ports ++ b.built.ports) port → Contains a.ports port
port_there n a b port h = Contains-permutation (n.ports ++ b.built.ports) a.ports port b.built.has_ports (contained_has (n.ports ++ b.built.ports) port h)

none_at_input : (n a : Raw) (b : Building n a) (port : RawPort) (i x : ℕ) → Has (n.ports ++ b.built.ports) port → is_input port ≡ true → At port.bits i (Net x) → NonePasses a x
none_at_input n a b port i x h e at =
    let place = input_at_place a port (port_there n a b port h) e in
    none_at_port a place.0 i x b.passed_there (record { port = port; at_port = place.1; at_bit = at })

known_constant : (a : Raw) (ds : List ℕ) (b : RawBit) → b ≡ Zero → KnownBit a ds b
known_constant a ds b e y h = absurd (cc)

same_direction : (p q : RawPort) → q.direction ≡ p.direction → is_input p ≡ true → is_input q ≡ true
same_direction p q e h = rw e h

is_data : (n : Raw) (port : RawPort) → Has n.ports port → is_data_port n port ≡ true → Has (data_ports n) port
unfolding data_ports
is_data n port h e = Has-filter (is_data_port n) n.ports port h e

shadow_port_known : (n a : Raw) (b : Building n a) (p q : RawPort) (i x : ℕ) → IsShadowPort n b.released b.built.shadow p q → Has b.built.ports q → is_input p ≡ true → At p.bits i (Net x) → is_cleared n b.released x ≡ false → KnownBit a [] (b.built.shadow x)
shadow_port_known n a b p q i x is h e at free y same =
    let here : get_or q.bits i no_bit ≡ Net y = sym (is.input i x e (At-get p.bits i (Net x) no_bit at) free) ∙ same in
    let input : is_input q ≡ true = same_direction p q is.port.direction e in
    inl (none_at_input n a b q i y (Has-right n.ports b.built.ports q h) input (net_at q.bits i y here))

port_shadow_by : (n a : Raw) (b : Building n a) (q : ℕ) (port : RawPort) (i x : ℕ) (cleared : Bool) → is_cleared n b.released x ≡ cleared → At (filter is_input n.ports) q port → At port.bits i (Net x) → Has (net_numbers n) x → is_clock n x ≡ false
    → KnownBit a [] (b.built.shadow x)
port_shadow_by n a b q port i x true e at bit number free = known_constant a [] (b.built.shadow x) (b.built.cleared x (contained_has (net_numbers n) x number) e)
port_shadow_by n a b q port i x false e at bit number free =
    let inside = input_contained n q port at in
    let apart : is_data_port n port ≡ true = no_clock_by n q port i x (list_any (is_clock_bit n) port.bits) refl b.passed at bit free in
    let has : Has (data_ports n) port = is_data n port (has_contained n.ports port inside.0) apart in
    let place = At-has (data_ports n) port has in
    let taint = zip_at (IsShadowPort n b.released b.built.shadow) (data_ports n) b.built.ports place.0 port b.built.are_ports place.1 in
    shadow_port_known n a b port taint.0 i x taint.2 (Has-at b.built.ports place.0 taint.0 taint.1) inside.1 bit e

port_known : (n a : Raw) (b : Building n a) (q : ℕ) (port : RawPort) (i x : ℕ) → At (filter is_input n.ports) q port → At port.bits i (Net x) → Has (net_numbers n) x → is_clock n x ≡ false → KnownBoth a b.built.shadow [] x
port_known n a b q port i x at bit number free =
    let inside = input_contained n q port at in (
      inl (none_at_input n a b port i x (Has-left n.ports b.built.ports port (has_contained n.ports port inside.0)) inside.1 bit),
      port_shadow_by n a b q port i x (is_cleared n b.released x) refl at bit number free,
    )

clock_known : (n a : Raw) (b : Building n a) (x : ℕ) → is_clock n x ≡ true → KnownBoth a b.built.shadow [] x
clock_known n a b x h =
    let input = clock_is_input n x h b.passed.clocks in
    let bit = input_driven n input.0 0 x input.1 in
    let inside = input_contained n input.0 bit.port bit.at_port in (
      inl (none_at_input n a b bit.port 0 x (Has-left n.ports b.built.ports bit.port (has_contained n.ports bit.port inside.0)) inside.1 bit.at_bit),
      known_constant a [] (b.built.shadow x) (b.built.clock x h),
    )

-- ---- the law

abbrev pub Origin : (n a : Raw) → Building n a → ℕ → Type 0
Origin n a b x = KnownBoth a b.built.shadow [] x ⊎ ((d : ℕ) × (c : RawCell) × At n.cells d c × Has (drives c) x)

origin_by : (n a : Raw) (b : Building n a) (x : ℕ) → Has (net_numbers n) x → DrivenBy n x → Origin n a b x
origin_by n a b x number (by_port q i port at bit free e) = inl (port_known n a b q port i x at bit number free)
origin_by n a b x number (by_cell s) = inr (s.number, s.cell, s.is.at_cell, shown_by_role s.cell s.kind (role_of s.kind) s.word s.index x s.is.is_kind s.place)
origin_by n a b x number (by_clock e) = inl (clock_known n a b x (only_clock n x b.form (contained_has (net_numbers n) x number) e))

pub origin : (n a : Raw) (b : Building n a) (i : ℕ) (c : RawCell) (x : ℕ) → At n.cells i c → Has (nets_in (operand_bits c)) x → Origin n a b x
origin n a b i c x at h =
    origin_by n a b x
    (number_of_cell n i c x at (Has-left (nets_in (operand_bits c) ++ nets_in (output_bits c)) (nets_in (clock_bits c)) x (Has-left (nets_in (operand_bits c)) (nets_in (output_bits c)) x h)))
    (driven_by n x b.passed)
