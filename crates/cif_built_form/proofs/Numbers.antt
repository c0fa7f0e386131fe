-- The numbers that a module drives: those at its input ports, and those at outputs of its cells.
use Rattle.std.specs.Prelude.{ℕ, ◌+◌, ◌/◌, ◌%◌, ◌≡◌, Bool, true, false, List, [], ◌∷◌, ◌++◌, map, filter, Option, Some, None, unwrap_or, if◌then◌else◌, refl}
use Rattle.std.specs.List.{flat_map}
use Rattle.std.proofs.Common.{sym, ap, ◌∙◌}
use Rattle.std.proofs.lemmas.List.{map-append}
use Rattle.cif_defs.specs.Kinds.{role_of}
use Rattle.cif_defs.specs.Table.{kind_of, outputs_of}
use Rattle.cif_defs.specs.RawModule.{bits_by, nets_in, number_given, output_bits, port_bits}
use Rattle.cif_defs.specs.Accepted.{driven, driven_by_cells, driven_by_inputs, driven_by_kind, driven_by_outputs, driven_by_role, driven_from, is_input}
use Rattle.cif_defs.specs.declared.kinds.Kind.{Kind}
use Rattle.cif_defs.specs.declared.kinds.Kind.TheVariants.{ScopeInfo}
use Rattle.cif_defs.specs.declared.kinds.Param.TheVariants.{Width}
use Rattle.cif_defs.specs.declared.kinds.PortRow.{PortRow}
use Rattle.cif_defs.specs.declared.kinds.Role.{Role}
use Rattle.cif_defs.specs.declared.kinds.Role.TheVariants.{Combinational, PlainRegister, ResetRegister, MemoryBlock, CarriedOver}
use Rattle.cif_defs.specs.declared.nets.Driver.{Driver}
use Rattle.cif_defs.specs.declared.nets.Driver.TheVariants.{Input, Output, Register, Read}
use Rattle.cif_defs.specs.declared.raw_module.RawBit.{RawBit}
use Rattle.cif_defs.specs.declared.raw_module.RawBit.TheVariants.{Net, Zero, One, X, Z}
use Rattle.cif_defs.specs.declared.raw_module.RawPort.{RawPort}
use Rattle.cif_defs.specs.declared.raw_module.RawCell.{RawCell}
use Rattle.cif_defs.specs.declared.raw_module.Raw.{Raw}
use Rattle.cif_checks.specs.Checks.{driven_numbers}
use Rattle.cif_nets.proofs.Places.{nets_in-append}
use Rattle.cif_augment.specs.Additions.{numbers_of_input}
use Rattle.cif_emit.specs.Emitted.{drives}

abbrev pub numbers : List (ℕ × Driver) → List ℕ
numbers ds = map (λ (d : ℕ × Driver). d.0) ds

-- ---- in a row

numbers_from : (d : ℕ → Driver) (i : ℕ) (bits : List RawBit) → numbers (driven_from d i bits) ≡ nets_in bits
numbers_from d i [] = refl
numbers_from d i (Net x ∷ bits) = ap (λ ns. x ∷ ns) (numbers_from d (i + 1) bits)
numbers_from d i (Zero ∷ bits) = numbers_from d (i + 1) bits
numbers_from d i (One ∷ bits) = numbers_from d (i + 1) bits
numbers_from d i (X ∷ bits) = numbers_from d (i + 1) bits
numbers_from d i (Z ∷ bits) = numbers_from d (i + 1) bits

-- ---- input ports

numbers_of_inputs : (p : ℕ) (ports : List RawPort) → numbers (driven_by_inputs p ports) ≡ flat_map (λ (q : RawPort). nets_in q.bits) ports
numbers_of_inputs p [] = refl
numbers_of_inputs p (port ∷ ports) =
    map-append (λ (d : ℕ × Driver). d.0) (driven_from (Input p) 0 port.bits) (driven_by_inputs (p + 1) ports)
    ∙ ap (λ ns. ns ++ numbers (driven_by_inputs (p + 1) ports)) (numbers_from (Input p) 0 port.bits)
    ∙ ap (λ ns. nets_in port.bits ++ ns) (numbers_of_inputs (p + 1) ports)

filtered_by : (b : Bool) (p : RawPort) (ports : List RawPort) (rest : List ℕ) → flat_map (λ (q : RawPort). nets_in q.bits) ports ≡ rest
    → flat_map (λ (q : RawPort). nets_in q.bits) (if b then p ∷ ports else ports) ≡ (if b then nets_in p.bits else []) ++ rest
filtered_by true p ports rest e = ap (λ ns. nets_in p.bits ++ ns) e
filtered_by false p ports rest e = e

numbers_filtered : (ports : List RawPort) → flat_map (λ (q : RawPort). nets_in q.bits) (filter is_input ports) ≡ flat_map numbers_of_input ports
numbers_filtered [] = refl
numbers_filtered (p ∷ ports) = filtered_by (is_input p) p (filter is_input ports) (flat_map numbers_of_input ports) (numbers_filtered ports)

-- ---- cells

numbers_of_rows : (c p : ℕ) (cell : RawCell) (rows : List PortRow) → numbers (driven_by_outputs c p (map (port_bits cell) rows)) ≡ nets_in (flat_map (port_bits cell) rows)
numbers_of_rows c p cell [] = refl
numbers_of_rows c p cell (row ∷ rows) =
    map-append (λ (d : ℕ × Driver). d.0) (driven_from (Output c p) 0 (port_bits cell row)) (driven_by_outputs c (p + 1) (map (port_bits cell) rows))
    ∙ ap (λ ns. ns ++ numbers (driven_by_outputs c (p + 1) (map (port_bits cell) rows))) (numbers_from (Output c p) 0 (port_bits cell row))
    ∙ ap (λ ns. nets_in (port_bits cell row) ++ ns) (numbers_of_rows c (p + 1) cell rows)
    ∙ sym (nets_in-append (port_bits cell row) (flat_map (port_bits cell) rows))

no_outputs : (k : Kind) → role_of k ≡ CarriedOver → outputs_of k ≡ []
unfolding outputs_of
no_outputs ScopeInfo e = refl
no_outputs _ e = absurd (cc)

numbers_by_role : (c : ℕ) (role : Role) (cell : RawCell) (k : Kind) → kind_of cell.kind ≡ Some k → role_of k ≡ role → numbers (driven_by_role c role cell k) ≡ drives cell
numbers_by_role c Combinational cell k e r = numbers_of_rows c 0 cell (outputs_of k) ∙ sym (ap (λ o. nets_in (bits_by outputs_of cell o)) e)
numbers_by_role c PlainRegister cell k e r = numbers_from (Register c) 0 (output_bits cell)
numbers_by_role c ResetRegister cell k e r = numbers_from (Register c) 0 (output_bits cell)
numbers_by_role c MemoryBlock cell k e r = numbers_from (λ i. Read c (i / unwrap_or (number_given cell Width) 0) (i % unwrap_or (number_given cell Width) 0)) 0 (output_bits cell)
numbers_by_role c CarriedOver cell k e r = sym (ap (λ o. nets_in (bits_by outputs_of cell o)) e ∙ ap (λ rows. nets_in (flat_map (port_bits cell) rows)) (no_outputs k r))

numbers_by_kind : (c : ℕ) (cell : RawCell) (o : Option Kind) → kind_of cell.kind ≡ o → numbers (driven_by_kind c cell o) ≡ drives cell
numbers_by_kind c cell None e = sym (ap (λ o. nets_in (bits_by outputs_of cell o)) e)
numbers_by_kind c cell (Some k) e = numbers_by_role c (role_of k) cell k e refl

numbers_of_cells : (c : ℕ) (cells : List RawCell) → numbers (driven_by_cells c cells) ≡ flat_map drives cells
numbers_of_cells c [] = refl
numbers_of_cells c (cell ∷ cells) =
    map-append (λ (d : ℕ × Driver). d.0) (driven_by_kind c cell (kind_of cell.kind)) (driven_by_cells (c + 1) cells)
    ∙ ap (λ ns. ns ++ numbers (driven_by_cells (c + 1) cells)) (numbers_by_kind c cell (kind_of cell.kind) refl)
    ∙ ap (λ ns. drives cell ++ ns) (numbers_of_cells (c + 1) cells)

-- ---- both

pub numbers_driven : (raw : Raw) → driven_numbers raw ≡ flat_map numbers_of_input raw.ports ++ flat_map drives raw.cells
unfolding driven
numbers_driven raw =
    map-append (λ (d : ℕ × Driver). d.0) (driven_by_inputs 0 (filter is_input raw.ports)) (driven_by_cells 0 raw.cells)
    ∙ ap (λ ns. ns ++ numbers (driven_by_cells 0 raw.cells)) (numbers_of_inputs 0 (filter is_input raw.ports) ∙ numbers_filtered raw.ports)
    ∙ ap (λ ns. flat_map numbers_of_input raw.ports ++ ns) (numbers_of_cells 0 raw.cells)
