-- In a well-formed module each net number is driven by an input port or a cell, or is the clock.
use Rattle.std.specs.Prelude.{ℕ, ◌+◌, ◌/◌, ◌%◌, nat_lt, ◌≡◌, ◌⊎◌, ◌==◌, Bool, true, false, not, ◌&&◌, List, [], ◌∷◌, ◌++◌, map, filter, length, Contains, Option, Some, None, is_some, refl}
use Rattle.std.specs.List.{flat_map}
use Rattle.std.proofs.Common.{sym, ap, ◌∙◌, inl, inr, subst}
use Rattle.std.proofs.lemmas.Bool.{and_parts, not-false}
use Rattle.cif_defs.specs.Kinds.{role_of}
use Rattle.cif_defs.specs.Table.{kind_of, operands_of, outputs_of}
use Rattle.cif_defs.specs.RawModule.{bits_by, clock_bits, net_numbers, nets_in, numbers_held, operand_bits, output_bits, port_bits}
use Rattle.cif_defs.specs.Accepted.{all_clock_bits, driven, driven_by_cells, driven_by_inputs, driven_by_kind, driven_by_role, driver_in, driver_of_number, is_clock, is_input, is_output}
use Rattle.cif_defs.specs.declared.kinds.Kind.{Kind}
use Rattle.cif_defs.specs.declared.kinds.Kind.TheVariants.{ScopeInfo}
use Rattle.cif_defs.specs.declared.kinds.Role.{Role}
use Rattle.cif_defs.specs.declared.kinds.Role.TheVariants.{Combinational, PlainRegister, ResetRegister, MemoryBlock, CarriedOver}
use Rattle.cif_defs.specs.declared.nets.Driver.{Driver}
use Rattle.cif_defs.specs.declared.nets.Driver.TheVariants.{Input, Output, Register, Read, Clock}
use Rattle.cif_defs.specs.declared.raw_module.Direction.{Direction}
use Rattle.cif_defs.specs.declared.raw_module.Direction.TheVariants.{Input as InputPort, Output as OutputPort, Inout}
use Rattle.cif_defs.specs.declared.raw_module.RawBit.{RawBit}
use Rattle.cif_defs.specs.declared.raw_module.RawBit.TheVariants.{Net, Zero, One, X, Z}
use Rattle.cif_defs.specs.declared.raw_module.RawPort.{RawPort}
use Rattle.cif_defs.specs.declared.raw_module.RawCell.{RawCell}
use Rattle.cif_defs.specs.declared.raw_module.Raw.{Raw}
use Rattle.cif_checks.specs.declared.fault.Spot.{Spot}
use Rattle.cif_checks.specs.declared.fault.Spot.TheVariants.{Port}
use Rattle.cif_checks.specs.declared.fault.BuildFault.TheVariants.{Undriven, TwoClocks, InoutPort, ZeroWidth, WidthLimit, NoClockInput}
use Rattle.cif_checks.specs.Checks.{◌else_by◌, ClockUse, IsWellFormed, cell_fault, cell_spot, clock_fault, clock_uses, clocks_fault, data_fault, drivers_fault, fault_if, first_fault, first_fault_from, form_fault, inits_fault, input_fault, is_clock_input, is_inout, is_same_bit, operand_fault, operands_fault_by, port_fault, port_limit, ports_fault, ports_fault_from, read_fault, reads_fault, seen_after, shown_fault, uses_fault}
use Rattle.cif_nets.proofs.Places.{At, At-has, Has, Has-append, Has-at, Has-filter, Has-flat_map}
use Rattle.cif_nets.proofs.Rising.{Has-from_rising}
use Rattle.cif_nets.proofs.Driven.{CellIs, Has-driver, cells_at, driven_by_input, driven_by_output, driven_by_read, driven_by_register, driven_from_at, inputs_at, outputs_at, word_width}
use Rattle.cif_nets.proofs.Passed.{Passed, all_uses, clock_is_first, each_passes, first_passes, is_first, next_passes, passes_form, test_passes}
use Rattle.cif_raw_runs.proofs.Numbers.{has_contained}
use Rattle.cif_raw_runs.proofs.Drivers.{is_driver}

-- no place drives as the clock does
clock_by_role : (c : ℕ) (role : Role) (cell : RawCell) (k : Kind) (x : ℕ) → Has (driven_by_role c role cell k) (x, Clock) → ⊥
clock_by_role c Combinational cell k x h = (let r = outputs_at c cell (outputs_of k) 0 x Clock h in let is : Clock ≡ Output c (0 + r.number) r.index = r.is in cc)
clock_by_role c PlainRegister cell k x h = (let r = driven_from_at (Register c) 0 (output_bits cell) x Clock h in let is : Clock ≡ Register c (0 + r.0) = r.2 in cc)
clock_by_role c ResetRegister cell k x h = (let r = driven_from_at (Register c) 0 (output_bits cell) x Clock h in let is : Clock ≡ Register c (0 + r.0) = r.2 in cc)
clock_by_role c MemoryBlock cell k x h =
    (let r = driven_from_at (λ j. Read c (j / word_width cell) (j % word_width cell)) 0 (output_bits cell) x Clock h in let is : Clock ≡ Read c ((0 + r.0) / word_width cell) ((0 + r.0) % word_width cell) = r.2 in cc)
clock_by_role c CarriedOver cell k x h = h

clock_by_kind : (c : ℕ) (cell : RawCell) (o : Option Kind) (x : ℕ) → Has (driven_by_kind c cell o) (x, Clock) → ⊥
clock_by_kind c cell None x h = h
clock_by_kind c cell (Some k) x h = clock_by_role c (role_of k) cell k x h

clock_not_driven : (raw : Raw) (x : ℕ) → Has (driven raw) (x, Clock) → ⊥
unfolding driven
clock_not_driven raw x h = elim (Has-append (driven_by_inputs 0 (filter is_input raw.ports)) (driven_by_cells 0 raw.cells) (x, Clock) h) [
  | inl a ↦ (let r = inputs_at 0 (filter is_input raw.ports) x Clock a in let is : Clock ≡ Input (0 + r.number) r.index = r.is in cc)
  | inr b ↦ (let r = cells_at 0 raw.cells x Clock b in clock_by_kind (0 + r.number) r.cell (kind_of r.cell.kind) x r.has)
]

-- ---- where a number stands

from_flat_map : {A B : Type 0} (f : A → List B) (xs : List A) (y : B) → Has (flat_map f xs) y → (x : A) × Has xs x × Has (f x) y
from_flat_map f [] y h = absurd h
from_flat_map f (x ∷ xs) y h = elim (Has-append (f x) (flat_map f xs) y h) [
  | inl a ↦ (x, inl refl, a)
  | inr b ↦ (let rest = from_flat_map f xs y b in (rest.0, inr rest.1, rest.2))
]

has_net : (bits : List RawBit) (x : ℕ) → Has (nets_in bits) x → Has bits (Net x)
has_net [] x h = absurd h
has_net (Net y ∷ bits) x (inl e) = inl (ap Net e)
has_net (Net y ∷ bits) x (inr h) = inr (has_net bits x h)
has_net (Zero ∷ bits) x h = inr (has_net bits x h)
has_net (One ∷ bits) x h = inr (has_net bits x h)
has_net (X ∷ bits) x h = inr (has_net bits x h)
has_net (Z ∷ bits) x h = inr (has_net bits x h)

-- ---- bits that are read have a driver

abbrev IsDriven : Raw → ℕ → Type 0
IsDriven raw x = (d : Driver) × Has (driven raw) (x, d)

abbrev IsClockOrDriven : Raw → ℕ → Type 0
IsClockOrDriven raw x = (is_clock raw x ≡ true) ⊎ IsDriven raw x

driver_some : (raw : Raw) (x : ℕ) (o : Option Driver) → driver_in (driven raw) x ≡ o → is_some o ≡ true → IsDriven raw x
driver_some raw x (Some d) e h = (d, Has-driver (driven raw) x d e)
driver_some raw x None e h = absurd (cc)

each_read : (raw : Raw) (spot : Spot) (i : ℕ) (bits : List RawBit) (x : ℕ) → first_fault_from (read_fault raw spot) i bits ≡ None → Has bits (Net x) → IsDriven raw x
each_read raw spot i [] x h k = absurd k
each_read raw spot i (b ∷ bits) x h (inl e) =
    let here : read_fault raw spot i (Net x) ≡ None = ap (read_fault raw spot i) (sym e) ∙ first_passes (read_fault raw spot i b) (first_fault_from (read_fault raw spot) (i + 1) bits) h in
    driver_some raw x (driver_in (driven raw) x) refl (not-false (is_some (driver_in (driven raw) x)) (test_passes (not (is_some (driver_in (driven raw) x))) (Undriven x) here))
each_read raw spot i (b ∷ bits) x h (inr k) = each_read raw spot (i + 1) bits x (next_passes (read_fault raw spot i b) (first_fault_from (read_fault raw spot) (i + 1) bits) h) k

operand_driven : (raw : Raw) (cell : RawCell) (o : Option Kind) (x : ℕ) → operands_fault_by raw cell o ≡ None → Has (nets_in (bits_by operands_of cell o)) x → IsDriven raw x
operand_driven raw cell None x h k = absurd k
operand_driven raw cell (Some kind) x h k =
    let row = from_flat_map (port_bits cell) (operands_of kind) (Net x) (has_net (flat_map (port_bits cell) (operands_of kind)) x k) in
    each_read raw (cell_spot cell row.0) 0 (port_bits cell row.0) x (each_passes (operand_fault raw cell) (operands_of kind) row.0 h row.1) row.2

-- ---- outputs drive

no_outputs : (k : Kind) → role_of k ≡ CarriedOver → outputs_of k ≡ []
unfolding outputs_of
no_outputs ScopeInfo e = refl
no_outputs _ e = absurd (cc)

output_driven_by : (raw : Raw) (c : ℕ) (cell : RawCell) (k : Kind) (x : ℕ) (role : Role) → CellIs raw c cell k → role_of k ≡ role → Has (output_bits cell) (Net x) → IsDriven raw x
output_driven_by raw c cell k x Combinational is e h =
    let out : Has (flat_map (port_bits cell) (outputs_of k)) (Net x) = rw (← ap (bits_by outputs_of cell) is.is_kind) h in
    let row = from_flat_map (port_bits cell) (outputs_of k) (Net x) out in
    let p = At-has (outputs_of k) row.0 row.1 in
    let i = At-has (port_bits cell row.0) (Net x) row.2 in
    (Output c p.0 i.0, driven_by_output raw c p.0 i.0 x (record { cell = cell; kind = k; is = is; role = e; bit = record { row = row.0; at_row = p.1; at_bit = i.1 } }))
output_driven_by raw c cell k x PlainRegister is e h = (let i = At-has (output_bits cell) (Net x) h in (Register c i.0, driven_by_register raw c i.0 x (record { cell = cell; kind = k; is = is; role = inl e; at_bit = i.1 })))
output_driven_by raw c cell k x ResetRegister is e h = (let i = At-has (output_bits cell) (Net x) h in (Register c i.0, driven_by_register raw c i.0 x (record { cell = cell; kind = k; is = is; role = inr e; at_bit = i.1 })))
output_driven_by raw c cell k x MemoryBlock is e h = (let i = At-has (output_bits cell) (Net x) h in
    (Read c (i.0 / word_width cell) (i.0 % word_width cell), driven_by_read raw c (i.0 / word_width cell) (i.0 % word_width cell) x (record { cell = cell; kind = k; is = is; role = e; place = i.0; port = refl; index = refl; at_bit = i.1 })))
output_driven_by raw c cell k x CarriedOver is e h =
    absurd (let none : output_bits cell ≡ [] = ap (bits_by outputs_of cell) is.is_kind ∙ ap (flat_map (port_bits cell)) (no_outputs k e) in let bad : ⊥ = subst (λ (bits : List RawBit). Has bits (Net x)) none h in bad)

output_is_driven : (raw : Raw) (c : ℕ) (cell : RawCell) (o : Option Kind) (x : ℕ) → At raw.cells c cell → kind_of cell.kind ≡ o → Has (output_bits cell) (Net x) → IsDriven raw x
output_is_driven raw c cell None x at e h = absurd (let none : output_bits cell ≡ [] = ap (bits_by outputs_of cell) e in let bad : ⊥ = subst (λ (bits : List RawBit). Has bits (Net x)) none h in bad)
output_is_driven raw c cell (Some k) x at e h = output_driven_by raw c cell k x (role_of k) (record { at_cell = at; is_kind = e }) refl h

-- ---- every clock bit is the clock

same_is_first : (b : RawBit) (x : ℕ) (bs : List RawBit) → is_same_bit b (Net x) ≡ true → is_first x (b ∷ bs) ≡ true
same_is_first (Net y) x bs h = h
same_is_first Zero x bs h = absurd (cc)
same_is_first One x bs h = absurd (cc)
same_is_first X x bs h = absurd (cc)
same_is_first Z x bs h = absurd (cc)

use_of : (uses : List ClockUse) (b : RawBit) → Has (map (λ (u : ClockUse). u.bit) uses) b → (u : ClockUse) × Has uses u × (u.bit ≡ b)
use_of [] b h = absurd h
use_of (u ∷ us) b (inl e) = (u, inl refl, e)
use_of (u ∷ us) b (inr h) = (let rest = use_of us b h in (rest.0, inr rest.1, rest.2))

clock_use : (raw : Raw) (uses : List ClockUse) (x : ℕ) → uses_fault raw uses ≡ None → Has (map (λ (u : ClockUse). u.bit) uses) (Net x) → is_first x (map (λ (u : ClockUse). u.bit) uses) ≡ true
clock_use raw [] x h k = absurd k
clock_use raw (first ∷ rest) x h k =
    let u = use_of (first ∷ rest) (Net x) k in
    let all = first_passes (first_fault (clock_fault raw.ports first) (first ∷ rest)) (data_fault raw first.bit) h in
    let here : clock_fault raw.ports first u.0 ≡ None = each_passes (clock_fault raw.ports first) (first ∷ rest) u.0 all u.1 in
    let same : (is_same_bit first.bit u.0.bit && first.polarity == u.0.polarity) ≡ true =
    not-false (is_same_bit first.bit u.0.bit && first.polarity == u.0.polarity) (test_passes (not (is_same_bit first.bit u.0.bit && first.polarity == u.0.polarity)) (TwoClocks u.0.user.name)
    (next_passes (fault_if (not (is_clock_input raw.ports u.0.bit)) (NoClockInput u.0.user.name)) (fault_if (not (is_same_bit first.bit u.0.bit && first.polarity == u.0.polarity)) (TwoClocks u.0.user.name)) here)) in
    same_is_first first.bit x (map (λ (v : ClockUse). v.bit) rest) (ap (is_same_bit first.bit) (sym u.2) ∙ (and_parts (is_same_bit first.bit u.0.bit) (first.polarity == u.0.polarity) same).0)

clock_bit_is_clock : (raw : Raw) (x : ℕ) → clocks_fault raw ≡ None → Has (all_clock_bits raw) (Net x) → is_clock raw x ≡ true
unfolding clocks_fault
clock_bit_is_clock raw x h k =
    clock_is_first raw x ∙ ap (is_first x) (sym (all_uses raw.cells)) ∙ clock_use raw (clock_uses raw) x h (rw (all_uses raw.cells) k)

-- ---- ports

port_passes : (seen : List ℕ) (ports : List RawPort) (port : RawPort) → ports_fault_from seen ports ≡ None → Has ports port → is_inout port.direction ≡ false
port_passes seen [] port h k = absurd k
port_passes seen (p ∷ ports) port h (inl e) =
    let here = first_passes (port_fault seen p) (ports_fault_from (seen_after seen p) ports) h in
    let zero_width = fault_if (is_inout p.direction) (InoutPort p.name) else_by fault_if (length p.bits == 0) (ZeroWidth (Port p.name)) in
    let limits = zero_width else_by fault_if (nat_lt port_limit (length p.bits)) (WidthLimit (Port p.name)) in
    ap (λ (q : RawPort). is_inout q.direction) (sym e)
    ∙ test_passes (is_inout p.direction) (InoutPort p.name) (first_passes (fault_if (is_inout p.direction) (InoutPort p.name)) (fault_if (length p.bits == 0) (ZeroWidth (Port p.name)))
    (first_passes zero_width (fault_if (nat_lt port_limit (length p.bits)) (WidthLimit (Port p.name))) (first_passes limits (input_fault seen p) here)))
port_passes seen (p ∷ ports) port h (inr k) = port_passes (seen_after seen p) ports port (next_passes (port_fault seen p) (ports_fault_from (seen_after seen p) ports) h) k

one_way : (port : RawPort) (d : Direction) → port.direction ≡ d → is_inout d ≡ false → (is_input port ≡ true) ⊎ (is_output port ≡ true)
one_way port InputPort e h = inl (ap (λ (d : Direction). is_input (record port { direction = d })) e)
one_way port OutputPort e h = inr (ap (λ (d : Direction). is_output (record port { direction = d })) e)
one_way port Inout e h = absurd (cc)

port_is_driven : (raw : Raw) (port : RawPort) (x : ℕ) → ports_fault raw ≡ None → first_fault (shown_fault raw) (filter is_output raw.ports) ≡ None → Has raw.ports port → Has port.bits (Net x) → IsDriven raw x
unfolding ports_fault
port_is_driven raw port x ports shown h k = elim (one_way port port.direction refl (port_passes [] raw.ports port ports h)) [
  | inl e ↦ (let q = At-has (filter is_input raw.ports) port (Has-filter is_input raw.ports port h e) in let i = At-has port.bits (Net x) k in
      (Input q.0 i.0, driven_by_input raw q.0 i.0 x (record { port = port; at_port = q.1; at_bit = i.1 })))
  | inr e ↦ each_read raw (Port port.name) 0 port.bits x (each_passes (shown_fault raw) (filter is_output raw.ports) port shown (Has-filter is_output raw.ports port h e)) k
]

-- ---- the law

record PassesAll (raw : Raw) : Type 0 where
  ports : ports_fault raw ≡ None
  form : Passed raw
  operands : first_fault (λ (c : RawCell). operands_fault_by raw c (kind_of c.kind)) raw.cells ≡ None
  shown : first_fault (shown_fault raw) (filter is_output raw.ports) ≡ None

passes_all : (raw : Raw) → IsWellFormed raw → PassesAll raw
unfolding form_fault reads_fault
passes_all raw h =
    let two = ports_fault raw else_by first_fault cell_fault raw.cells in
    let three = two else_by drivers_fault raw in
    let four = three else_by clocks_fault raw in
    let reads = first_fault (λ (c : RawCell). operands_fault_by raw c (kind_of c.kind)) raw.cells else_by first_fault (shown_fault raw) (filter is_output raw.ports) in
    let all_five : (four else_by reads) ≡ None = first_passes (four else_by reads) (inits_fault raw) h in
    let all_reads : reads ≡ None = next_passes four reads all_five in
    let all_two = first_passes two (drivers_fault raw) (first_passes three (clocks_fault raw) (first_passes four reads all_five)) in
    record {
      ports = first_passes (ports_fault raw) (first_fault cell_fault raw.cells) all_two;
      form = passes_form raw h;
      operands = first_passes (first_fault (λ (c : RawCell). operands_fault_by raw c (kind_of c.kind)) raw.cells) (first_fault (shown_fault raw) (filter is_output raw.ports)) all_reads;
      shown = next_passes (first_fault (λ (c : RawCell). operands_fault_by raw c (kind_of c.kind)) raw.cells) (first_fault (shown_fault raw) (filter is_output raw.ports)) all_reads;
    }

cell_is_driven : (raw : Raw) (c : ℕ) (cell : RawCell) (x : ℕ) → PassesAll raw → At raw.cells c cell → Has (nets_in (operand_bits cell) ++ nets_in (output_bits cell) ++ nets_in (clock_bits cell)) x → IsClockOrDriven raw x
cell_is_driven raw c cell x s at h = elim (Has-append (nets_in (operand_bits cell) ++ nets_in (output_bits cell)) (nets_in (clock_bits cell)) x h) [
  | inl a ↦ elim (Has-append (nets_in (operand_bits cell)) (nets_in (output_bits cell)) x a) [
    | inl b ↦ inr (operand_driven raw cell (kind_of cell.kind) x (each_passes (λ (d : RawCell). operands_fault_by raw d (kind_of d.kind)) raw.cells cell s.operands (Has-at raw.cells c cell at)) b)
    | inr b ↦ inr (output_is_driven raw c cell (kind_of cell.kind) x at refl (has_net (output_bits cell) x b))
  ]
  | inr a ↦ inl (clock_bit_is_clock raw x s.form.clocks (Has-flat_map clock_bits raw.cells c cell (Net x) at (has_net (clock_bits cell) x a)))
]

is_clock_or_driven : (raw : Raw) (x : ℕ) → PassesAll raw → Has (net_numbers raw) x → IsClockOrDriven raw x
unfolding net_numbers
is_clock_or_driven raw x s h =
    elim (Has-append (flat_map (λ (p : RawPort). nets_in p.bits) raw.ports) (flat_map (λ (c : RawCell). nets_in (operand_bits c) ++ nets_in (output_bits c) ++ nets_in (clock_bits c)) raw.cells) x (Has-from_rising (numbers_held raw) x h)) [
      | inl a ↦ (let port = from_flat_map (λ (p : RawPort). nets_in p.bits) raw.ports x a in inr (port_is_driven raw port.0 x s.ports s.shown port.1 (has_net port.0.bits x port.2)))
      | inr b ↦ (let cell = from_flat_map (λ (c : RawCell). nets_in (operand_bits c) ++ nets_in (output_bits c) ++ nets_in (clock_bits c)) raw.cells x b in
          let at = At-has raw.cells cell.0 cell.1 in cell_is_driven raw at.0 cell.0 x s at.1 cell.2)
    ]

clock_by : (raw : Raw) (x : ℕ) (b : Bool) → Passed raw → Has (net_numbers raw) x → is_clock raw x ≡ b → IsDriven raw x → driver_of_number raw x ≡ Clock → b ≡ true
clock_by raw x true s n e d h = refl
clock_by raw x false s n e d h =
    absurd (let same : d.0 ≡ Clock = sym (is_driver raw x d.0 s n e d.1) ∙ h in let bad : Has (driven raw) (x, Clock) = rw (← same) d.1 in clock_not_driven raw x bad)

-- what nothing but the clock drives is the clock
pub only_clock : (raw : Raw) (x : ℕ) → IsWellFormed raw → Contains (net_numbers raw) x → driver_of_number raw x ≡ Clock → is_clock raw x ≡ true
only_clock raw x h number e =
    let s = passes_all raw h in
    let has = has_contained (net_numbers raw) x number in
    elim (is_clock_or_driven raw x s has) [ inl c ↦ c | inr d ↦ clock_by raw x (is_clock raw x) s.form has refl d e ]
