-- The cells and the ports of a netlist stand in byte order of name, as those of its module do.
use Rattle.std.specs.Prelude.{ℕ, ◌≡◌, Bool, List, [], ◌∷◌, map, filter, Option, Some, None, refl}
use Rattle.std.specs.List.{AllByRecursion}
use Rattle.std.specs.List.Sorted.{IsStrictlySortedBy}
use Rattle.std.specs.Ordering.{nat_cmp}
use Rattle.std.specs.Cmp.Lexicographic.{slice_cmp}
use Rattle.std.proofs.Common.{sym, ap, ◌∙◌, subst, Less}
use Rattle.std.proofs.lemmas.Bool.{cond_both}
use Rattle.cif_defs.specs.Table.{kind_of}
use Rattle.cif_defs.specs.RawModule.{net_numbers}
use Rattle.cif_defs.specs.Cells.{Cell}
use Rattle.cif_defs.specs.Accepted.{cell_by, cell_of, is_input, is_output, netlist_of, wire_of}
use Rattle.cif_defs.specs.Order.{AreInOrder, AreCellsInOrder, AreWiresInOrder, IsInOrder, cell_names, port_names}
use Rattle.cif_defs.specs.declared.kinds.Kind.{Kind}
use Rattle.cif_defs.specs.declared.nets.Wire.{Wire}
use Rattle.cif_defs.specs.declared.raw_module.RawCell.{RawCell}
use Rattle.cif_defs.specs.declared.raw_module.RawPort.{RawPort}
use Rattle.cif_defs.specs.declared.raw_module.Raw.{Raw}
use Rattle.cif_checks.specs.Checks.{IsAccepted, cell_fault, cell_fault_by, first_fault}
use Rattle.cif_nets.proofs.Passed.{first_passes, next_passes, passed}

-- ---- cells

named_by : (ns : List ℕ) (cell : RawCell) (o : Option Kind) → cell_fault_by cell o ≡ None → (cell_by ns cell o).name ≡ cell.name
named_by ns cell None h = absurd (cc)
named_by ns cell (Some k) h = refl

-- a cell that passes its checks keeps its name
named : (ns : List ℕ) (cell : RawCell) → cell_fault cell ≡ None → (cell_of ns cell).name ≡ cell.name
unfolding cell_of cell_fault
named ns cell h = named_by ns cell (kind_of cell.kind) h

abbrev names_of : List Cell → List (List ℕ)
names_of cells = map (λ (c : Cell). c.name) cells

names_kept : (ns : List ℕ) (cells : List RawCell) → first_fault cell_fault cells ≡ None → names_of (map (cell_of ns) cells) ≡ cell_names cells
names_kept ns [] h = refl
names_kept ns (cell ∷ cells) h =
    let first : (cell_of ns cell).name ≡ cell.name = named ns cell (first_passes (cell_fault cell) (first_fault cell_fault cells) h) in
    let rest : names_of (map (cell_of ns) cells) ≡ cell_names cells = names_kept ns cells (next_passes (cell_fault cell) (first_fault cell_fault cells) h) in
    cc

pub cells_in_order : (raw : Raw) (cells : List Cell) → cells ≡ (netlist_of raw).cells → IsAccepted raw → IsInOrder raw → AreCellsInOrder cells
unfolding netlist_of
cells_in_order raw cells e h o =
    let names : names_of cells ≡ cell_names raw.cells = ap names_of e ∙ names_kept (net_numbers raw) raw.cells (passed raw h).cells in
    subst AreInOrder (sym names) o.cells

-- ---- ports

abbrev IsBelowAll : List ℕ → List (List ℕ) → Type 0
IsBelowAll name names = AllByRecursion (λ other. slice_cmp nat_cmp name other ≡ Less) names

below_filtered : (p : RawPort → Bool) (name : List ℕ) (ports : List RawPort) → IsBelowAll name (port_names ports) → IsBelowAll name (port_names (filter p ports))
below_filtered p name [] h = h
below_filtered p name (x ∷ xs) h =
    cond_both (p x) (x ∷ filter p xs) (filter p xs) (λ ys. IsBelowAll name (port_names ys))
    (λ _. (h.0, below_filtered p name xs h.1)) (λ _. below_filtered p name xs h.1)

-- those of a list in order that pass a test are in order
filtered_in_order : (p : RawPort → Bool) (ports : List RawPort) → AreInOrder (port_names ports) → AreInOrder (port_names (filter p ports))
unfolding IsStrictlySortedBy
filtered_in_order p [] h = h
filtered_in_order p (x ∷ xs) h =
    cond_both (p x) (x ∷ filter p xs) (filter p xs) (λ ys. IsStrictlySortedBy (slice_cmp nat_cmp) (port_names ys))
    (λ _. (below_filtered p x.name xs h.0, filtered_in_order p xs h.1)) (λ _. filtered_in_order p xs h.1)

wire_names : (ns : List ℕ) (ports : List RawPort) → map (λ (w : Wire). w.name) (map (wire_of ns) ports) ≡ port_names ports
wire_names ns [] = refl
wire_names ns (p ∷ ps) = ap (λ names. p.name ∷ names) (wire_names ns ps)

wires_in_order : (p : RawPort → Bool) (raw : Raw) → IsInOrder raw → AreWiresInOrder (map (wire_of (net_numbers raw)) (filter p raw.ports))
wires_in_order p raw o = subst AreInOrder (sym (wire_names (net_numbers raw) (filter p raw.ports))) (filtered_in_order p raw.ports o.ports)

pub inputs_in_order : (raw : Raw) (wires : List Wire) → wires ≡ (netlist_of raw).inputs → IsInOrder raw → AreWiresInOrder wires
unfolding netlist_of
inputs_in_order raw wires e o = subst AreWiresInOrder (sym e) (wires_in_order is_input raw o)

pub outputs_in_order : (raw : Raw) (wires : List Wire) → wires ≡ (netlist_of raw).outputs → IsInOrder raw → AreWiresInOrder wires
unfolding netlist_of
outputs_in_order raw wires e o = subst AreWiresInOrder (sym e) (wires_in_order is_output raw o)
