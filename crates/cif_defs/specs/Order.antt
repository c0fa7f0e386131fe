-- Names in byte order, each once.
use Rattle.std.specs.Prelude.{ℕ, List, map, bytes_eq, Option}
use Rattle.std.specs.List.{AllByRecursion, position_from}
use Rattle.std.specs.List.Sorted.{IsStrictlySortedBy}
use Rattle.std.specs.Ordering.{nat_cmp}
use Rattle.std.specs.Cmp.Lexicographic.{slice_cmp}
use Rattle.cif_defs.specs.Cells.{Cell}
use Rattle.cif_defs.specs.declared.nets.Wire.{Wire}
use Rattle.cif_defs.specs.declared.raw_module.RawParam.{RawParam}
use Rattle.cif_defs.specs.declared.raw_module.Connection.{Connection}
use Rattle.cif_defs.specs.declared.raw_module.RawPort.{RawPort}
use Rattle.cif_defs.specs.declared.raw_module.RawCell.{RawCell}
use Rattle.cif_defs.specs.declared.raw_module.RawName.{RawName}
use Rattle.cif_defs.specs.declared.raw_module.Raw.{Raw}

-- names in byte order, each once
abbrev pub AreInOrder : List (List ℕ) → Type 0
AreInOrder names = IsStrictlySortedBy (slice_cmp nat_cmp) names

abbrev pub param_names : List RawParam → List (List ℕ)
param_names params = map (λ (p : RawParam). p.name) params

abbrev pub connection_names : List Connection → List (List ℕ)
connection_names connections = map (λ (x : Connection). x.name) connections

abbrev pub port_names : List RawPort → List (List ℕ)
port_names ports = map (λ (p : RawPort). p.name) ports

abbrev pub cell_names : List RawCell → List (List ℕ)
cell_names cells = map (λ (c : RawCell). c.name) cells

abbrev pub net_names : List RawName → List (List ℕ)
net_names nets = map (λ (n : RawName). n.name) nets

-- the names in a cell
pub record IsCellInOrder (c : RawCell) : Type 0 where
  pub parameters : AreInOrder (param_names c.parameters)
  pub attributes : AreInOrder (param_names c.attributes)
  pub connections : AreInOrder (connection_names c.connections)

abbrev pub IsNetInOrder : RawName → Type 0
IsNetInOrder n = AreInOrder (param_names n.attributes)

-- all names in a module
pub record IsInOrder (raw : Raw) : Type 0 where
  pub attributes : AreInOrder (param_names raw.attributes)
  pub ports : AreInOrder (port_names raw.ports)
  pub cells : AreInOrder (cell_names raw.cells)
  pub each_cell : AllByRecursion IsCellInOrder raw.cells
  pub nets : AreInOrder (net_names raw.names)
  pub each_net : AllByRecursion IsNetInOrder raw.names

-- ---- the same of a netlist

abbrev pub AreCellsInOrder : List Cell → Type 0
AreCellsInOrder cells = AreInOrder (map (λ (c : Cell). c.name) cells)

abbrev pub AreWiresInOrder : List Wire → Type 0
AreWiresInOrder wires = AreInOrder (map (λ (w : Wire). w.name) wires)

-- ---- things by name

-- the place of the first thing that has a name
unfoldable pub place_among : {A : Type 0} → (A → List ℕ) → List A → List ℕ → Option ℕ
place_among name_of xs name = position_from (λ x. bytes_eq (name_of x) name) 0 xs
