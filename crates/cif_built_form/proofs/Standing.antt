-- The net numbers that stand in a module, among them those that it drives.
use Rattle.std.specs.Prelude.{ℕ, ◌≡◌, ◌⊎◌, Bool, true, false, List, [], ◌∷◌, ◌++◌, Option, Some, None, unwrap_or, bytes_eq, refl}
use Rattle.std.specs.List.{flat_map}
use Rattle.std.proofs.Common.{sym, cond, inl, inr, subst}
use Rattle.cif_defs.specs.Table.{kind_of, outputs_of, port_text}
use Rattle.cif_defs.specs.RawModule.{bits_by, bits_named, net_numbers, nets_in, output_bits, port_bits}
use Rattle.cif_defs.specs.Accepted.{is_input}
use Rattle.cif_defs.specs.declared.kinds.Kind.{Kind}
use Rattle.cif_defs.specs.declared.kinds.PortRow.{PortRow}
use Rattle.cif_defs.specs.declared.raw_module.RawBit.{RawBit}
use Rattle.cif_defs.specs.declared.raw_module.RawBit.TheVariants.{Net}
use Rattle.cif_defs.specs.declared.raw_module.Connection.{Connection}
use Rattle.cif_defs.specs.declared.raw_module.RawPort.{RawPort}
use Rattle.cif_defs.specs.declared.raw_module.RawCell.{RawCell}
use Rattle.cif_defs.specs.declared.raw_module.RawName.{RawName}
use Rattle.cif_defs.specs.declared.raw_module.Raw.{Raw}
use Rattle.cif_checks.specs.Checks.{driven_numbers}
use Rattle.cif_nets.proofs.Places.{At-has, Has, Has-append, Has-left, Has-right}
use Rattle.cif_raw_runs.proofs.Numbers.{number_of_output, number_of_port}
use Rattle.cif_augment.specs.Additions.{numbers_of_input, standing_numbers}
use Rattle.cif_emit.specs.Emitted.{drives}
use Rattle.cif_built_form.proofs.Lists.{from_flat_map, has_net, in_flat_map, net_has}
use Rattle.cif_built_form.proofs.Numbers.{numbers_driven}

-- ---- bits of a cell stand in its connections

first_by : (b : Bool) (c : Connection) (later : Option (List RawBit)) (rest : List ℕ) (x : ℕ) → (Has (unwrap_or later []) (Net x) → Has rest x)
    → Has (unwrap_or (cond b (Some c.bits) later) []) (Net x) → Has (nets_in c.bits ++ rest) x
first_by true c later rest x next h = Has-left (nets_in c.bits) rest x (net_has c.bits x h)
first_by false c later rest x next h = Has-right (nets_in c.bits) rest x (next h)

first_connected : (name : List ℕ) (xs : List Connection) (x : ℕ) → Has (unwrap_or (bits_named name xs) []) (Net x) → Has (flat_map (λ (c : Connection). nets_in c.bits) xs) x
first_connected name [] x h = absurd h
first_connected name (c ∷ cs) x h =
    first_by (bytes_eq c.name name) c (bits_named name cs) (flat_map (λ (d : Connection). nets_in d.bits) cs) x (first_connected name cs x) h

connected_by : (rows : Kind → List PortRow) (c : RawCell) (o : Option Kind) (x : ℕ) → Has (bits_by rows c o) (Net x) → Has (flat_map (λ (d : Connection). nets_in d.bits) c.connections) x
connected_by rows c None x h = absurd h
connected_by rows c (Some k) x h = (let row = from_flat_map (port_bits c) (rows k) (Net x) h in first_connected (port_text row.0.port) c.connections x row.2)

-- ---- what stands

pub standing_in_port : (raw : Raw) (p : RawPort) (x : ℕ) → Has raw.ports p → Has p.bits (Net x) → Has (standing_numbers raw) x
unfolding standing_numbers
standing_in_port raw p x h k =
    let ports = flat_map (λ (q : RawPort). nets_in q.bits) raw.ports in
    let cells = flat_map (λ (c : RawCell). flat_map (λ (d : Connection). nets_in d.bits) c.connections) raw.cells in
    Has-left (ports ++ cells) (flat_map (λ (w : RawName). nets_in w.bits) raw.names) x (Has-left ports cells x (in_flat_map (λ (q : RawPort). nets_in q.bits) raw.ports p x h (net_has p.bits x k)))

pub standing_in_cell : (raw : Raw) (c : RawCell) (rows : Kind → List PortRow) (x : ℕ) → Has raw.cells c → Has (bits_by rows c (kind_of c.kind)) (Net x) → Has (standing_numbers raw) x
unfolding standing_numbers
standing_in_cell raw c rows x h k =
    let ports = flat_map (λ (q : RawPort). nets_in q.bits) raw.ports in
    let cells = flat_map (λ (c : RawCell). flat_map (λ (d : Connection). nets_in d.bits) c.connections) raw.cells in
    Has-left (ports ++ cells) (flat_map (λ (w : RawName). nets_in w.bits) raw.names) x
    (Has-right ports cells x (in_flat_map (λ (d : RawCell). flat_map (λ (e : Connection). nets_in e.bits) d.connections) raw.cells c x h (connected_by rows c (kind_of c.kind) x k)))

pub standing_in_name : (raw : Raw) (w : RawName) (x : ℕ) → Has raw.names w → Has w.bits (Net x) → Has (standing_numbers raw) x
unfolding standing_numbers
standing_in_name raw w x h k =
    let ports = flat_map (λ (q : RawPort). nets_in q.bits) raw.ports in
    let cells = flat_map (λ (c : RawCell). flat_map (λ (d : Connection). nets_in d.bits) c.connections) raw.cells in
    Has-right (ports ++ cells) (flat_map (λ (v : RawName). nets_in v.bits) raw.names) x (in_flat_map (λ (v : RawName). nets_in v.bits) raw.names w x h (net_has w.bits x k))

-- ---- what is driven

-- a number that is driven stands at an input port, or at an output of a cell
pub record IsInput (raw : Raw) (x : ℕ) : Type 0 where
  pub port : RawPort
  pub has_port : Has raw.ports port
  pub is_input : is_input port ≡ true
  pub has_bit : Has port.bits (Net x)

pub record IsOutput (raw : Raw) (x : ℕ) : Type 0 where
  pub cell : RawCell
  pub has_cell : Has raw.cells cell
  pub has_bit : Has (output_bits cell) (Net x)

input_by : (b : Bool) (bits : List RawBit) (x : ℕ) → Has (cond b (nets_in bits) []) x → (b ≡ true) × Has bits (Net x)
input_by true bits x h = (refl, has_net bits x h)
input_by false bits x h = absurd h

pub number_of_input : (p : RawPort) (x : ℕ) → Has (numbers_of_input p) x → (is_input p ≡ true) × Has p.bits (Net x)
number_of_input p x h = input_by (is_input p) p.bits x h

pub input_number : (p : RawPort) (x : ℕ) → is_input p ≡ true → Has p.bits (Net x) → Has (numbers_of_input p) x
input_number p x e h = subst (λ b. Has (cond b (nets_in p.bits) []) x) (sym e) (net_has p.bits x h)

pub at_input : (raw : Raw) (x : ℕ) → Has (flat_map numbers_of_input raw.ports) x → IsInput raw x
at_input raw x h =
    let port = from_flat_map numbers_of_input raw.ports x h in
    let bit = number_of_input port.0 x port.2 in
    record { port = port.0; has_port = port.1; is_input = bit.0; has_bit = bit.1 }

pub at_output : (raw : Raw) (x : ℕ) → Has (flat_map drives raw.cells) x → IsOutput raw x
at_output raw x h = (let cell = from_flat_map drives raw.cells x h in record { cell = cell.0; has_cell = cell.1; has_bit = has_net (output_bits cell.0) x cell.2 })

pub driven_at : (raw : Raw) (x : ℕ) → Has (driven_numbers raw) x → IsInput raw x ⊎ IsOutput raw x
driven_at raw x h = elim (Has-append (flat_map numbers_of_input raw.ports) (flat_map drives raw.cells) x (rw (numbers_driven raw) at h)) [
  | inl k ↦ inl (at_input raw x k)
  | inr k ↦ inr (at_output raw x k)
]

pub input_driven : (raw : Raw) (p : RawPort) (x : ℕ) → Has raw.ports p → is_input p ≡ true → Has p.bits (Net x) → Has (driven_numbers raw) x
input_driven raw p x h e k = rw numbers_driven (Has-left (flat_map numbers_of_input raw.ports) (flat_map drives raw.cells) x (in_flat_map numbers_of_input raw.ports p x h (input_number p x e k)))

pub output_driven : (raw : Raw) (c : RawCell) (x : ℕ) → Has raw.cells c → Has (output_bits c) (Net x) → Has (driven_numbers raw) x
output_driven raw c x h k = rw numbers_driven (Has-right (flat_map numbers_of_input raw.ports) (flat_map drives raw.cells) x (in_flat_map drives raw.cells c x h (net_has (output_bits c) x k)))

pub driven_stands : (raw : Raw) (x : ℕ) → Has (driven_numbers raw) x → Has (standing_numbers raw) x
driven_stands raw x h = elim (driven_at raw x h) [ inl i ↦ standing_in_port raw i.port x i.has_port i.has_bit | inr o ↦ standing_in_cell raw o.cell outputs_of x o.has_cell o.has_bit ]

-- ---- the net numbers of the module

pub number_of_driven : (raw : Raw) (x : ℕ) → Has (driven_numbers raw) x → Has (net_numbers raw) x
number_of_driven raw x h = elim (driven_at raw x h) [
  | inl i ↦ (let p = At-has raw.ports i.port i.has_port in let j = At-has i.port.bits (Net x) i.has_bit in number_of_port raw p.0 j.0 i.port x p.1 j.1)
  | inr o ↦ (let c = At-has raw.cells o.cell o.has_cell in
      number_of_output raw c.0 o.cell x c.1 (net_has (output_bits o.cell) x o.has_bit))
]
