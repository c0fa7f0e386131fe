-- The net numbers of a module, by the places at which they stand, and cells by their names.
use Rattle.std.specs.Prelude.{ℕ, zero, suc, ◌<◌, ◌≡◌, true, List, [], ◌∷◌, ◌++◌, filter, length, get_or, Contains, unwrap_or}
use Rattle.std.specs.List.{flat_map}
use Rattle.std.proofs.Common.{arith, sym, ap, ◌∙◌}
use Rattle.cif_defs.specs.Order.{IsInOrder, place_among}
use Rattle.cif_defs.specs.Table.{operands_of, outputs_of}
use Rattle.cif_defs.specs.RawModule.{clock_bits, net_numbers, nets_in, numbers_held, operand_bits, output_bits, port_bits}
use Rattle.cif_defs.specs.Accepted.{is_input, no_bit}
use Rattle.cif_defs.specs.declared.kinds.Kind.{Kind}
use Rattle.cif_defs.specs.declared.kinds.PortRow.{PortRow}
use Rattle.cif_defs.specs.declared.raw_module.RawBit.{RawBit}
use Rattle.cif_defs.specs.declared.raw_module.RawBit.TheVariants.{Net}
use Rattle.cif_defs.specs.declared.raw_module.RawPort.{RawPort}
use Rattle.cif_defs.specs.declared.raw_module.RawCell.{RawCell}
use Rattle.cif_defs.specs.declared.raw_module.Raw.{Raw}
use Rattle.cif_defs.proofs.NameOrder.{own_place}
use Rattle.cif_nets.proofs.Places.{At, Has, At-below, At-get, At-has, Has-at, Has-filter, Has-flat_map, Has-left, Has-nets, Has-right, Has-unfilter, passes_at}
use Rattle.cif_nets.proofs.Rising.{Has-rising}
use Rattle.cif_nets.proofs.Driven.{CellIs}
use Rattle.cif_nets.proofs.Wired.{nets_of_rows}
use Rattle.cif_raw_runs.specs.Places.{cell_number}

-- ---- what a list contains

at_get : {A : Type 0} (xs : List A) (i : ℕ) (x : A) → i < length xs → get_or xs i x ≡ x → At xs i x
at_get [] i x l e = absurd (omega arith)
at_get (y ∷ ys) zero x l e = e
at_get (y ∷ ys) (suc i) x l e = at_get ys i x (omega arith) e

pub at_contained : {A : Type 0} (xs : List A) (x : A) → Contains xs x → (i : ℕ) × At xs i x
at_contained xs x h = (h.0, at_get xs h.0 x h.1 h.2)

pub contained_at : {A : Type 0} (xs : List A) (i : ℕ) (x : A) → At xs i x → Contains xs x
contained_at xs i x h = (i, At-below xs i x h, At-get xs i x x h)

pub has_contained : {A : Type 0} (xs : List A) (x : A) → Contains xs x → Has xs x
has_contained xs x h = (let at = at_contained xs x h in Has-at xs at.0 x at.1)

pub contained_has : {A : Type 0} (xs : List A) (x : A) → Has xs x → Contains xs x
contained_has xs x h = (let at = At-has xs x h in contained_at xs at.0 x at.1)

-- a net that is read at a place stands there
pub net_at : (bits : List RawBit) (i x : ℕ) → get_or bits i no_bit ≡ Net x → At bits i (Net x)
net_at [] i x e = absurd (cc)
net_at (b ∷ bits) zero x e = e
net_at (b ∷ bits) (suc i) x e = net_at bits i x e

-- ---- net numbers

-- what an operand, an output or a clock of a cell holds is a net number of the module
pub number_of_cell : (raw : Raw) (c : ℕ) (cell : RawCell) (x : ℕ) → At raw.cells c cell → Has (nets_in (operand_bits cell) ++ nets_in (output_bits cell) ++ nets_in (clock_bits cell)) x → Has (net_numbers raw) x
unfolding net_numbers
number_of_cell raw c cell x at h =
    Has-rising (numbers_held raw) x (Has-right (flat_map (λ (p : RawPort). nets_in p.bits) raw.ports) (flat_map (λ (c : RawCell). nets_in (operand_bits c) ++ nets_in (output_bits c) ++ nets_in (clock_bits c)) raw.cells) x
    (Has-flat_map (λ (c : RawCell). nets_in (operand_bits c) ++ nets_in (output_bits c) ++ nets_in (clock_bits c)) raw.cells c cell x at h))

pub number_of_output : (raw : Raw) (c : ℕ) (cell : RawCell) (x : ℕ) → At raw.cells c cell → Has (nets_in (output_bits cell)) x → Has (net_numbers raw) x
number_of_output raw c cell x at h =
    number_of_cell raw c cell x at (Has-left (nets_in (operand_bits cell) ++ nets_in (output_bits cell)) (nets_in (clock_bits cell)) x (Has-right (nets_in (operand_bits cell)) (nets_in (output_bits cell)) x h))

pub number_of_row : (raw : Raw) (c : ℕ) (cell : RawCell) (k : Kind) (p i : ℕ) (r : PortRow) (x : ℕ) → CellIs raw c cell k → At (outputs_of k) p r → At (port_bits cell r) i (Net x) → Has (net_numbers raw) x
number_of_row raw c cell k p i r x is row at =
    let here : Has (nets_in (flat_map (port_bits cell) (outputs_of k))) x = nets_of_rows cell (outputs_of k) p r x row (Has-nets (port_bits cell r) i x at) in
    let outputs : Has (nets_in (output_bits cell)) x = rw is.is_kind here in
    number_of_output raw c cell x is.at_cell outputs

pub number_of_operand : (raw : Raw) (c : ℕ) (cell : RawCell) (k : Kind) (p i : ℕ) (r : PortRow) (x : ℕ) → CellIs raw c cell k → At (operands_of k) p r → At (port_bits cell r) i (Net x) → Has (net_numbers raw) x
number_of_operand raw c cell k p i r x is row at =
    let here : Has (nets_in (flat_map (port_bits cell) (operands_of k))) x = nets_of_rows cell (operands_of k) p r x row (Has-nets (port_bits cell r) i x at) in
    let operands : Has (nets_in (operand_bits cell)) x = rw is.is_kind here in
    number_of_cell raw c cell x is.at_cell (Has-left (nets_in (operand_bits cell) ++ nets_in (output_bits cell)) (nets_in (clock_bits cell)) x (Has-left (nets_in (operand_bits cell)) (nets_in (output_bits cell)) x operands))

pub number_of_port : (raw : Raw) (q i : ℕ) (port : RawPort) (x : ℕ) → At raw.ports q port → At port.bits i (Net x) → Has (net_numbers raw) x
unfolding net_numbers
number_of_port raw q i port x at bit =
    Has-rising (numbers_held raw) x (Has-left (flat_map (λ (p : RawPort). nets_in p.bits) raw.ports) (flat_map (λ (c : RawCell). nets_in (operand_bits c) ++ nets_in (output_bits c) ++ nets_in (clock_bits c)) raw.cells) x
    (Has-flat_map (λ (p : RawPort). nets_in p.bits) raw.ports q port x at (Has-nets port.bits i x bit)))

-- ---- input ports and cells

pub input_at_place : (raw : Raw) (port : RawPort) → Contains raw.ports port → is_input port ≡ true → (q : ℕ) × At (filter is_input raw.ports) q port
input_at_place raw port h e = At-has (filter is_input raw.ports) port (Has-filter is_input raw.ports port (has_contained raw.ports port h) e)

pub input_contained : (raw : Raw) (q : ℕ) (port : RawPort) → At (filter is_input raw.ports) q port → Contains raw.ports port × (is_input port ≡ true)
input_contained raw q port h = (contained_has raw.ports port (Has-unfilter is_input raw.ports port (Has-at (filter is_input raw.ports) q port h)), passes_at is_input raw.ports q port h)

-- a cell is found by its name
pub cell_found : (raw : Raw) (c : ℕ) (cell : RawCell) → IsInOrder raw → At raw.cells c cell → cell_number raw cell.name ≡ c
cell_found raw c cell h at =
    ap (λ (name : List ℕ). unwrap_or (place_among (λ (d : RawCell). d.name) raw.cells name) (length raw.cells)) (ap (λ (d : RawCell). d.name) (sym (At-get raw.cells c cell cell at)))
    ∙ ap (λ o. unwrap_or o (length raw.cells)) (own_place (λ (d : RawCell). d.name) raw.cells c cell h.cells (At-below raw.cells c cell at))
