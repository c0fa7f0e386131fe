-- From the checks of a module to its netlist.
use Rattle.std.specs.Prelude.{ℕ, ◌≡◌, ◌≤◌, Bool, false, ◌==◌, List, [], ◌∷◌, filter, length, map, Option, Some, None, refl}
use Rattle.std.specs.List.{flat_map}
use Rattle.std.proofs.Common.{arith, sym, ap, subst, ◌∙◌, cond, inl, inr}
use Rattle.std.proofs.lemmas.List.{length-map}
use Rattle.cif_defs.specs.RawModule.{clock_bits, net_numbers}
use Rattle.cif_defs.specs.Accepted.{all_clock_bits, cell_of, driven, driver_of_number, initial_of, is_clock, is_input, is_output, netlist_of, wire_of}
use Rattle.cif_defs.specs.Words.{Word}
use Rattle.cif_defs.specs.Cells.{Cell}
use Rattle.cif_defs.specs.declared.nets.Wire.{Wire}
use Rattle.cif_defs.specs.declared.raw_module.RawPort.{RawPort}
use Rattle.cif_defs.specs.declared.nets.Driver.{Driver}
use Rattle.cif_defs.specs.declared.nets.Driver.TheVariants.{Clock}
use Rattle.cif_defs.specs.declared.raw_module.RawBit.{RawBit}
use Rattle.cif_defs.specs.declared.raw_module.RawBit.TheVariants.{Net, Zero, One, X, Z}
use Rattle.cif_defs.specs.declared.raw_module.RawCell.{RawCell}
use Rattle.cif_defs.specs.declared.raw_module.Raw.{Raw}
use Rattle.cif_defs.specs.Order.{IsInOrder}
use Rattle.cif_checks.specs.Checks.{◌else_by◌, fault_if, counts_fault, ports_fault, cells_fault, drivers_fault, driven_numbers, is_twice, clocks_fault, reads_fault, inits_fault, build_fault, ClockUse, IsAccepted, IsFirst}
use Rattle.cif_cells.specs.Building.{clock_number, driver_read, first_number, is_number, later_faults, net_number}
use Rattle.cif_cells.specs.ClockBit.{clock_of}
use Rattle.cif_nets.specs.Clocks.{first_edge, uses_of}
use Rattle.cif_nets.specs.Drives.{driven_by}
use Rattle.cif_cells.specs.NetlistView.{Holds}
use Rattle.cif_cells.specs.Wires.{HoldsWires}
use Rattle.cif_cells.specs.declared.finding.Wires.{Wires}
use Rattle.cif_nets.specs.Nets.{driver_or_clock, first_faults, is_several}
use Rattle.cif_nets.specs.declared.clock.ClockEdge.{ClockEdge}
use Rattle.cif_checks.specs.declared.fault.BuildFault.{BuildFault}
use Rattle.cif_checks.specs.declared.fault.BuildFault.TheVariants.{MultiDriven}
use Rattle.cif_nets.proofs.Places.{Has}
use Rattle.cif_nets.proofs.Passed.{all_uses, each_passes, test_passes}
use Rattle.cif_checks.proofs.FirstFaults.{IsFirst-left, IsFirst-right, IsFirst-same, both_pass}
use Rattle.cif_nets.proofs.Wired.{wired}
use Rattle.cif_nets.proofs.NetLaws.{driver_of_state, several_is_twice}

-- ---- the clock

first_of_uses : (us : List ClockUse) (e : ClockEdge) → Some e ≡ first_edge us → net_number e.bit ≡ first_number (map (λ (u : ClockUse). u.bit) us)
first_of_uses [] e h = absurd (cc)
first_of_uses (u ∷ us) e h = (let same : e ≡ record { bit = u.bit; polarity = u.polarity } = cc in ap (λ (x : ClockEdge). net_number x.bit) same)

pub clock_found : (raw : Raw) (cells : List RawCell) (e : ClockEdge) → cells ≡ raw.cells → Some e ≡ first_edge (flat_map uses_of cells) → net_number e.bit ≡ clock_number raw
clock_found raw cells e q h = first_of_uses (flat_map uses_of cells) e h ∙ ap first_number (all_uses cells) ∙ ap (λ (cs : List RawCell). first_number (flat_map clock_bits cs)) q

none_of_uses : (us : List ClockUse) → None ≡ first_edge us → None ≡ first_number (map (λ (u : ClockUse). u.bit) us)
none_of_uses [] h = refl
none_of_uses (u ∷ us) h = absurd (cc)

pub no_clock_found : (raw : Raw) (cells : List RawCell) → cells ≡ raw.cells → None ≡ first_edge (flat_map uses_of cells) → None ≡ clock_number raw
no_clock_found raw cells q h = none_of_uses (flat_map uses_of cells) h ∙ ap first_number (all_uses cells) ∙ ap (λ (cs : List RawCell). first_number (flat_map clock_bits cs)) q

abbrev is_first : ℕ → List RawBit → Bool
is_first x (Net y ∷ bs) = y == x
is_first x _ = false

pub first_is_number : (x : ℕ) (bs : List RawBit) → is_number (first_number bs) x ≡ is_first x bs
first_is_number x [] = refl
first_is_number x (Net y ∷ bs) = refl
first_is_number x (Zero ∷ bs) = refl
first_is_number x (One ∷ bs) = refl
first_is_number x (X ∷ bs) = refl
first_is_number x (Z ∷ bs) = refl

-- ---- drivers

not_several : (raw : Raw) (x : ℕ) → drivers_fault raw ≡ None → Has (net_numbers raw) x → is_several (driven_by raw x) ≡ false
unfolding drivers_fault
not_several raw x h k = several_is_twice (driven raw) x ∙ test_passes (is_twice (driven_numbers raw) x) (MultiDriven x) (each_passes (λ y. fault_if (is_twice (driven_numbers raw) y) (MultiDriven y)) (net_numbers raw) x h k)

driver_is_read : (raw : Raw) (x : ℕ) → drivers_fault raw ≡ None → Has (net_numbers raw) x → driver_read raw x ≡ driver_of_number raw x
driver_is_read raw x h k =
    ap (λ b. cond b Clock (driver_or_clock (driven_by raw x))) (first_is_number x (all_clock_bits raw))
    ∙ ap (λ d. cond (is_clock raw x) Clock d) (driver_of_state (driven raw) x (not_several raw x h k))

map_same : {A B : Type 0} (f g : A → B) (xs : List A) → ((x : A) → Has xs x → f x ≡ g x) → map f xs ≡ map g xs
map_same f g [] h = refl
map_same f g (x ∷ xs) h = ap (λ y. y ∷ map f xs) (h x (inl refl)) ∙ ap (λ ys. g x ∷ ys) (map_same f g xs (λ y k. h y (inr k)))

pub drivers_are_read : (raw : Raw) → drivers_fault raw ≡ None → map (driver_read raw) (net_numbers raw) ≡ (netlist_of raw).drivers
unfolding netlist_of
drivers_are_read raw h = map_same (driver_read raw) (driver_of_number raw) (net_numbers raw) (λ x k. driver_is_read raw x h k)

-- ---- all checks

pub all_faults : (raw : Raw) → build_fault raw ≡ first_faults raw else_by later_faults raw
unfolding build_fault
all_faults raw = joined (first_faults raw) (drivers_fault raw) (clocks_fault raw) (reads_fault raw) (inits_fault raw) where
  joined : (a d c r i : Option BuildFault) → a else_by d else_by c else_by r else_by i ≡ a else_by (d else_by c else_by r else_by i)
  joined None d c r i = refl
  joined (Some f) d c r i = refl

no_early : (raw : Raw) → counts_fault raw ≡ None → ports_fault raw ≡ None → cells_fault raw ≡ None → first_faults raw ≡ None
no_early raw a b c = both_pass (counts_fault raw else_by ports_fault raw) (cells_fault raw) (both_pass (counts_fault raw) (ports_fault raw) a b) c

pub early_first : (raw : Raw) (e : BuildFault) → IsFirst (first_faults raw) e → IsFirst (build_fault raw) e
early_first raw e h = IsFirst-same (first_faults raw else_by later_faults raw) (build_fault raw) e (sym (all_faults raw)) (IsFirst-left (first_faults raw) (later_faults raw) e h)

pub later_first : (raw nets : Raw) (e : BuildFault) → nets ≡ raw → counts_fault nets ≡ None → ports_fault nets ≡ None → cells_fault nets ≡ None → IsFirst (later_faults nets) e → IsFirst (build_fault raw) e
later_first raw nets e same a b c h =
    IsFirst-same (first_faults nets else_by later_faults nets) (build_fault raw) e (sym (all_faults nets) ∙ ap build_fault same) (IsFirst-right (first_faults nets) (later_faults nets) e (no_early nets a b c) h)

pub no_fault : (nets : Raw) → counts_fault nets ≡ None → ports_fault nets ≡ None → cells_fault nets ≡ None → later_faults nets ≡ None → IsAccepted nets
no_fault nets a b c h = all_faults nets ∙ both_pass (first_faults nets) (later_faults nets) (no_early nets a b c) h

-- ---- what is put together

pub holds : (nets raw seen : Raw) (ns : List ℕ) (in_ports out_ports : List RawPort) (raw_cells : List RawCell) (inputs outputs : List Wire) (cells : List Cell) (drivers : List Driver) (initial : List Word) (clock : Option ℕ) (wires : Wires)
    → raw ≡ nets → seen ≡ nets → IsInOrder nets → IsAccepted nets → length nets.cells ≤ 400000 → length (net_numbers nets) ≤ 4194304
    → ns ≡ net_numbers nets → in_ports ≡ seen.ports → out_ports ≡ seen.ports → raw_cells ≡ seen.cells
    → inputs ≡ map (wire_of ns) (filter is_input in_ports) → outputs ≡ map (wire_of ns) (filter is_output out_ports) → cells ≡ map (cell_of ns) raw_cells
    → drivers ≡ (netlist_of nets).drivers → initial ≡ map (initial_of ns seen.names) seen.cells → clock ≡ clock_of nets → HoldsWires nets wires
    → Holds raw inputs outputs cells drivers initial clock wires
unfolding netlist_of
holds nets raw seen ns in_ports out_ports raw_cells inputs outputs cells drivers initial clock wires same at order accepted few bits qn qi qo qc hi ho hc hd hs hk hw =
    let P : Raw → Type 0 = λ r. Holds r inputs outputs cells drivers initial clock wires in
    subst P (sym same) (record {
      in_order = order;
      accepted = accepted;
      wired = wired nets accepted;
      few_cells = (let e : length (map (cell_of (net_numbers nets)) nets.cells) ≡ length nets.cells = length-map nets.cells (cell_of (net_numbers nets)) in omega arith);
      few_bits = (let e : length (map (driver_of_number nets) (net_numbers nets)) ≡ length (net_numbers nets) = length-map (net_numbers nets) (driver_of_number nets) in omega arith);
      same_inputs = hi ∙ ap (λ (m : List ℕ). map (wire_of m) (filter is_input in_ports)) qn ∙ ap (λ (ps : List RawPort). map (wire_of (net_numbers nets)) (filter is_input ps)) (qi ∙ ap (λ (r : Raw). r.ports) at);
      same_outputs = ho ∙ ap (λ (m : List ℕ). map (wire_of m) (filter is_output out_ports)) qn ∙ ap (λ (ps : List RawPort). map (wire_of (net_numbers nets)) (filter is_output ps)) (qo ∙ ap (λ (r : Raw). r.ports) at);
      same_cells = hc ∙ ap (λ (m : List ℕ). map (cell_of m) raw_cells) qn ∙ ap (λ (cs : List RawCell). map (cell_of (net_numbers nets)) cs) (qc ∙ ap (λ (r : Raw). r.cells) at);
      same_drivers = hd;
      same_initial = hs ∙ ap (λ (m : List ℕ). map (initial_of m seen.names) seen.cells) qn ∙ ap (λ (r : Raw). map (initial_of (net_numbers nets) r.names) r.cells) at;
      same_clock = hk;
      same_wires = hw;
    })
