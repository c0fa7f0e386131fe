-- What lines that fit a module name: ports that are no clock, registers and memories.
use Rattle.std.specs.Prelude.{ℕ, ◌≡◌, Bool, true, false, not, ◌&&◌, List, map, filter, bytes_eq, Option, Some, None, is_some, unwrap_or, refl, if◌then◌else◌}
use Rattle.std.specs.List.{list_any}
use Rattle.std.proofs.Common.{sym, ap, ◌∙◌, cond}
use Rattle.std.proofs.lemmas.Bool.{and_parts, and_from, false_from_ne_true}
use Rattle.cif_defs.specs.Kinds.{role_of, is_memory, is_register}
use Rattle.cif_defs.specs.Order.{IsInOrder}
use Rattle.cif_defs.specs.Table.{kind_of}
use Rattle.cif_defs.specs.RawModule.{net_numbers}
use Rattle.cif_defs.specs.Cells.{Cell}
use Rattle.cif_defs.specs.Netlist.{no_wire}
use Rattle.cif_defs.specs.Accepted.{cell_by, cell_of, driver_in, driven, is_input, netlist_of, source, wire_of}
use Rattle.cif_defs.specs.declared.kinds.Kind.{Kind}
use Rattle.cif_defs.specs.declared.kinds.Role.{Role}
use Rattle.cif_defs.specs.declared.nets.Driver.TheVariants.{Clock}
use Rattle.cif_defs.specs.declared.nets.Wire.{Wire}
use Rattle.cif_defs.specs.declared.raw_module.RawBit.{RawBit}
use Rattle.cif_defs.specs.declared.raw_module.RawBit.TheVariants.{Net, Zero, One, X, Z}
use Rattle.cif_defs.specs.declared.raw_module.RawPort.{RawPort}
use Rattle.cif_defs.specs.declared.raw_module.RawCell.{RawCell}
use Rattle.cif_defs.specs.declared.raw_module.Raw.{Raw}
use Rattle.cif_checks.specs.Checks.{IsAccepted, cell_fault, cell_fault_by}
use Rattle.cif_stimulus.specs.Fitting.{cell_as, is_clock_driver, is_clock_source, memory_named, register_named, settable}
use Rattle.cif_nets.proofs.Passed.{each_passes, passed}
use Rattle.cif_nets.proofs.Places.{At-has, Has, Has-any, Has-filter, Has-unfilter}
use Rattle.cif_raw_runs.proofs.Drivers.{own_driver}
use Rattle.cif_raw_runs.proofs.Numbers.{number_of_port}
use Rattle.cif_augment.specs.Names.{data_ports, has_role, has_role_by, is_clock_bit, is_data_port, is_reset_register}
use Rattle.cif_augment.specs.Stimuli.{input_bits, is_reset_named}
use Rattle.cif_built_inputs.proofs.Finds.{Has-map, Has-unmap, any_has, find_only, found_from, name_is, only_named, same_name}

-- ---- ports

-- a port that a line may set
pub record SetPort (n : Raw) (name : List ℕ) : Type 0 where
  pub port : RawPort
  pub stands : Has n.ports port
  pub is_data : Has (data_ports n) port
  pub named : port.name ≡ name

clock_source : (n : Raw) (p : RawPort) (b : RawBit) → Has n.ports p → Has p.bits b → is_clock_bit n b ≡ true → is_clock_source (netlist_of n) (source (net_numbers n) b) ≡ true
clock_source n p Zero h k e = absurd (cc)
clock_source n p One h k e = absurd (cc)
clock_source n p X h k e = absurd (cc)
clock_source n p Z h k e = absurd (cc)
clock_source n p (Net x) h k e =
    let port = At-has n.ports p h in
    let bit = At-has p.bits (Net x) k in
    let number : Has (net_numbers n) x = number_of_port n port.0 bit.0 p x port.1 bit.1 in
    ap is_clock_driver (own_driver n x number ∙ ap (λ b. cond b Clock (unwrap_or (driver_in (driven n) x) Clock)) e)

none_or_some : (b : Bool) (w : Wire) → is_some (if b then None else Some w) ≡ true → b ≡ false
none_or_some true w h = absurd (cc)
none_or_some false w h = refl

pub set_port : (n : Raw) (name : List ℕ) → is_some (settable (netlist_of n) name) ≡ true → SetPort n name
unfolding settable data_ports netlist_of
set_port n name h =
    let clock = is_clock_source (netlist_of n) in
    let found = found_from (wire_of (net_numbers n)) (λ (w : Wire). bytes_eq w.name name) (λ (w : Wire). if list_any clock w.bits then None else Some w) (filter is_input n.ports) h in
    let p : RawPort = found.0 in
    let stands : Has n.ports p = Has-unfilter is_input n.ports p found.1 in
    let not_clock : list_any clock (map (source (net_numbers n)) p.bits) ≡ false = none_or_some (list_any clock (map (source (net_numbers n)) p.bits)) (wire_of (net_numbers n) p) found.3 in
    let unclocked : list_any (is_clock_bit n) p.bits ≡ false = false_from_ne_true (list_any (is_clock_bit n) p.bits) (λ t.
    let b = Has-any (is_clock_bit n) p.bits t in
    let is : list_any clock (map (source (net_numbers n)) p.bits) ≡ true = any_has clock (map (source (net_numbers n)) p.bits) (source (net_numbers n) b.0) (Has-map (source (net_numbers n)) p.bits b.0 b.1) (clock_source n p b.0 stands b.1 b.2) in
    absurd (cc)) in
    record { port = p; stands = stands; is_data = Has-filter (is_data_port n) n.ports p stands (ap not unclocked); named = same_name p.name name found.2 }

-- the bits of the input port of a name
pub bits_of_port : (n : Raw) (p : RawPort) → IsInOrder n → Has n.ports p → is_input p ≡ true → input_bits (netlist_of n) p.name ≡ map (source (net_numbers n)) p.bits
unfolding netlist_of
bits_of_port n p order h e =
    ap (λ (o : Option Wire). (unwrap_or o no_wire).bits)
    (find_only (wire_of (net_numbers n)) (λ (w : Wire). bytes_eq w.name p.name) (filter is_input n.ports) p
    (λ q k t. only_named (λ (r : RawPort). r.name) n.ports q p order.ports (Has-unfilter is_input n.ports q k) h (same_name q.name p.name t))
    (Has-filter is_input n.ports p h e) (name_is p.name p.name refl))

-- ---- cells

known_by : (c : RawCell) (o : Option Kind) → kind_of c.kind ≡ o → cell_fault_by c o ≡ None → (k : Kind) × (kind_of c.kind ≡ Some k)
known_by c None e h = absurd (cc)
known_by c (Some k) e h = (k, e)

-- each cell is of a kind of the table
pub known : (n : Raw) (c : RawCell) → IsAccepted n → Has n.cells c → (k : Kind) × (kind_of c.kind ≡ Some k)
unfolding cell_fault
known n c ok h = known_by c (kind_of c.kind) refl (each_passes cell_fault n.cells c (passed n ok).cells h)

pub name_of_cell : (ns : List ℕ) (c : RawCell) (k : Kind) → kind_of c.kind ≡ Some k → (cell_of ns c).name ≡ c.name
unfolding cell_of
name_of_cell ns c k e = ap (λ (o : Option Kind). (cell_by ns c o).name) e

pub kind_of_cell : (ns : List ℕ) (c : RawCell) (k : Kind) → kind_of c.kind ≡ Some k → (cell_of ns c).kind ≡ k
unfolding cell_of
kind_of_cell ns c k e = ap (λ (o : Option Kind). (cell_by ns c o).kind) e

-- a cell that a line gives a word
pub record GivenCell (n : Raw) (test : Role → Bool) (name : List ℕ) : Type 0 where
  pub cell : RawCell
  pub stands : Has n.cells cell
  pub role : has_role test cell ≡ true
  pub named : cell.name ≡ name

role_is : (ns : List ℕ) (test : Role → Bool) (c : RawCell) (k : Kind) → kind_of c.kind ≡ Some k → test (role_of (cell_of ns c).kind) ≡ has_role test c
role_is ns test c k e = ap (λ (l : Kind). test (role_of l)) (kind_of_cell ns c k e) ∙ sym (ap (has_role_by test) e)

some_or_none : (b : Bool) (c : Cell) → is_some (if b then Some c else None) ≡ true → b ≡ true
some_or_none true c h = refl
some_or_none false c h = absurd (cc)

given_cell : (n : Raw) (test : Role → Bool) (name : List ℕ) → IsAccepted n → is_some (cell_as test (netlist_of n).cells name) ≡ true → GivenCell n test name
unfolding netlist_of
given_cell n test name ok h =
    let ns : List ℕ = net_numbers n in
    let found = found_from (cell_of ns) (λ (c : Cell). bytes_eq c.name name) (λ (c : Cell). if test (role_of c.kind) then Some c else None) n.cells h in
    let c : RawCell = found.0 in
    let k = known n c ok found.1 in
    record {
      cell = c;
      stands = found.1;
      role = sym (role_is ns test c k.0 k.1) ∙ some_or_none (test (role_of (cell_of ns c).kind)) (cell_of ns c) found.3;
      named = sym (name_of_cell ns c k.0 k.1) ∙ same_name (cell_of ns c).name name found.2;
    }

pub given_register : (n : Raw) (name : List ℕ) → IsAccepted n → is_some (register_named (netlist_of n) name) ≡ true → GivenCell n is_register name
unfolding register_named
given_register n name ok h = given_cell n is_register name ok h

pub given_memory : (n : Raw) (name : List ℕ) → IsAccepted n → is_some (memory_named (netlist_of n) name) ≡ true → GivenCell n is_memory name
unfolding memory_named
given_memory n name ok h = given_cell n is_memory name ok h

-- ---- registers with asynchronous reset

pub reset_cell : (n : Raw) (name : List ℕ) → IsAccepted n → is_reset_named (netlist_of n) name ≡ true → GivenCell n is_reset_register name
unfolding netlist_of
reset_cell n name ok h =
    let ns : List ℕ = net_numbers n in
    let found = Has-any (λ (d : Cell). bytes_eq d.name name && is_reset_register (role_of d.kind)) (map (cell_of ns) n.cells) h in
    let from = Has-unmap (cell_of ns) n.cells found.0 found.1 in
    let c : RawCell = from.0 in
    let k = known n c ok from.1 in
    let both = and_parts (bytes_eq (cell_of ns c).name name) (is_reset_register (role_of (cell_of ns c).kind)) (ap (λ (d : Cell). bytes_eq d.name name && is_reset_register (role_of d.kind)) from.2 ∙ found.2) in
    record {
      cell = c;
      stands = from.1;
      role = sym (role_is ns is_reset_register c k.0 k.1) ∙ both.1;
      named = sym (name_of_cell ns c k.0 k.1) ∙ same_name (cell_of ns c).name name both.0;
    }

pub is_reset_cell : (n : Raw) (c : RawCell) → IsAccepted n → Has n.cells c → has_role is_reset_register c ≡ true → is_reset_named (netlist_of n) c.name ≡ true
unfolding netlist_of
is_reset_cell n c ok h e =
    let ns : List ℕ = net_numbers n in
    let k = known n c ok h in
    any_has (λ (d : Cell). bytes_eq d.name c.name && is_reset_register (role_of d.kind)) (map (cell_of ns) n.cells) (cell_of ns c) (Has-map (cell_of ns) n.cells c h)
    (and_from (bytes_eq (cell_of ns c).name c.name) (is_reset_register (role_of (cell_of ns c).kind)) (name_is (cell_of ns c).name c.name (name_of_cell ns c k.0 k.1)) (role_is ns is_reset_register c k.0 k.1 ∙ e))
