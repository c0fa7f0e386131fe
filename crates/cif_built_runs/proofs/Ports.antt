-- The ports of an accepted module: which way they go, and which have the clock.
use Rattle.std.specs.Prelude.{ℕ, zero, suc, ◌+◌, ◌<◌, ◌≡◌, nat_lt, ◌==◌, ◌⊎◌, true, false, not, List, [], ◌∷◌, filter, length, get_or, Contains, Some, None, refl}
use Rattle.std.proofs.Common.{arith, sym, ap, ◌∙◌, inl, inr}
use Rattle.std.proofs.lemmas.Bool.{cond-true, not-false}
use Rattle.cif_defs.specs.RawModule.{is_net, net_numbers, nets_in}
use Rattle.cif_defs.specs.Accepted.{driven, is_input, is_output, no_bit}
use Rattle.cif_defs.specs.declared.nets.Driver.TheVariants.{Input}
use Rattle.cif_defs.specs.declared.raw_module.Direction.{Direction}
use Rattle.cif_defs.specs.declared.raw_module.Direction.TheVariants.{Input as InputPort, Output as OutputPort, Inout}
use Rattle.cif_defs.specs.declared.raw_module.RawBit.{RawBit}
use Rattle.cif_defs.specs.declared.raw_module.RawPort.{RawPort}
use Rattle.cif_defs.specs.declared.raw_module.Raw.{Raw}
use Rattle.cif_checks.specs.declared.fault.Spot.TheVariants.{Port}
use Rattle.cif_checks.specs.declared.fault.BuildFault.TheVariants.{ConstantOutput, InoutPort, WidthLimit, ZeroWidth}
use Rattle.cif_checks.specs.Checks.{◌else_by◌, IsWellFormed, cell_fault, clocks_fault, constant_input, drivers_fault, fault_if, first_fault, first_fault_from, form_fault, inits_fault, input_clash, input_fault, is_inout, port_fault, port_limit, ports_fault, ports_fault_from, reads_fault, seen_after}
use Rattle.cif_nets.proofs.Places.{Has}
use Rattle.cif_nets.proofs.Driven.{PortBit, driven_by_input, driver_once}
use Rattle.cif_nets.proofs.FewInputs.{port_passes}
use Rattle.cif_nets.proofs.Passed.{Passed, driven_once, first_passes, next_passes, test_passes}
use Rattle.cif_raw_runs.proofs.Numbers.{has_contained}

-- ---- what the checks of ports say

pub ports_pass : (raw : Raw) → IsWellFormed raw → ports_fault raw ≡ None
unfolding form_fault
ports_pass raw h =
    let two = ports_fault raw else_by first_fault cell_fault raw.cells in
    let three = two else_by drivers_fault raw in
    let four = three else_by clocks_fault raw in
    first_passes (ports_fault raw) (first_fault cell_fault raw.cells) (first_passes two (drivers_fault raw) (first_passes three (clocks_fault raw) (first_passes four (reads_fault raw) (first_passes (four else_by reads_fault raw) (inits_fault raw) h))))

port_passes_from : (seen : List ℕ) (ports : List RawPort) (port : RawPort) → ports_fault_from seen ports ≡ None → Has ports port → (before : List ℕ) × (port_fault before port ≡ None)
port_passes_from seen [] port h k = absurd k
port_passes_from seen (p ∷ ports) port h (inl e) = (seen, ap (port_fault seen) (sym e) ∙ first_passes (port_fault seen p) (ports_fault_from (seen_after seen p) ports) h)
port_passes_from seen (p ∷ ports) port h (inr k) = port_passes_from (seen_after seen p) ports port (next_passes (port_fault seen p) (ports_fault_from (seen_after seen p) ports) h) k

port_checked : (raw : Raw) (port : RawPort) → IsWellFormed raw → Contains raw.ports port → (before : List ℕ) × (port_fault before port ≡ None)
unfolding ports_fault
port_checked raw port h c = port_passes_from [] raw.ports port (ports_pass raw h) (has_contained raw.ports port c)

not_both_ways : (seen : List ℕ) (p : RawPort) → port_fault seen p ≡ None → is_inout p.direction ≡ false
not_both_ways seen p h =
    let one = fault_if (is_inout p.direction) (InoutPort p.name) in
    let two = one else_by fault_if (length p.bits == 0) (ZeroWidth (Port p.name)) in
    let three = two else_by fault_if (nat_lt port_limit (length p.bits)) (WidthLimit (Port p.name)) in
    test_passes (is_inout p.direction) (InoutPort p.name)
    (first_passes one (fault_if (length p.bits == 0) (ZeroWidth (Port p.name))) (first_passes two (fault_if (nat_lt port_limit (length p.bits)) (WidthLimit (Port p.name))) (first_passes three (input_fault seen p) h)))

way_by : (port : RawPort) (d : Direction) → port.direction ≡ d → is_inout d ≡ false → (is_input port ≡ true) ⊎ (is_output port ≡ true)
way_by port InputPort e h = inl (ap (λ (d : Direction). is_input (record port { direction = d })) e)
way_by port OutputPort e h = inr (ap (λ (d : Direction). is_output (record port { direction = d })) e)
way_by port Inout e h = absurd (cc)

-- a port is an input or an output
pub one_way : (raw : Raw) (port : RawPort) → IsWellFormed raw → Contains raw.ports port → (is_input port ≡ true) ⊎ (is_output port ≡ true)
one_way raw port h c = (let checked = port_checked raw port h c in way_by port port.direction refl (not_both_ways checked.0 port checked.1))

nets_by : (p : RawPort) (j i : ℕ) (bits : List RawBit) → first_fault_from (λ k b. fault_if (not (is_net b)) (ConstantOutput (Port p.name) k)) j bits ≡ None → i < length bits → is_net (get_or bits i no_bit) ≡ true
nets_by p j i [] h l = absurd (omega arith)
nets_by p j zero (b ∷ bits) h l =
    not-false (is_net b) (test_passes (not (is_net b)) (ConstantOutput (Port p.name) j) (first_passes (fault_if (not (is_net b)) (ConstantOutput (Port p.name) j)) (first_fault_from (λ k c. fault_if (not (is_net c)) (ConstantOutput (Port p.name) k)) (j + 1) bits) h))
nets_by p j (suc i) (b ∷ bits) h l =
    nets_by p (j + 1) i bits (next_passes (fault_if (not (is_net b)) (ConstantOutput (Port p.name) j)) (first_fault_from (λ k c. fault_if (not (is_net c)) (ConstantOutput (Port p.name) k)) (j + 1) bits) h) (omega arith)

-- the bits of an input port are nets
pub input_nets : (raw : Raw) (port : RawPort) (i : ℕ) → IsWellFormed raw → Contains raw.ports port → is_input port ≡ true → i < length port.bits → is_net (get_or port.bits i no_bit) ≡ true
input_nets raw port i h c e l =
    let checked = port_checked raw port h c in
    let both : (constant_input port else_by input_clash checked.0 (nets_in port.bits)) ≡ None =
    sym (cond-true (is_input port) (constant_input port else_by input_clash checked.0 (nets_in port.bits)) None e) ∙ (port_passes checked.0 port checked.1).input in
    nets_by port 0 i port.bits (first_passes (constant_input port) (input_clash checked.0 (nets_in port.bits)) both) l

-- ---- the port of the clock has no other bit

-- two input places of one number are the same
pub one_place : (raw : Raw) (x q i p j : ℕ) → Passed raw → Has (net_numbers raw) x → PortBit (filter is_input raw.ports) q i x → PortBit (filter is_input raw.ports) p j x → Input q i ≡ Input p j
one_place raw x q i p j s number b d =
    let once = driven_once raw x s.drivers number in
    let one : Some (Input q i) ≡ Some (Input p j) = sym (driver_once (driven raw) x (Input q i) once (driven_by_input raw q i x b)) ∙ driver_once (driven raw) x (Input p j) once (driven_by_input raw p j x d) in
    (cc)
