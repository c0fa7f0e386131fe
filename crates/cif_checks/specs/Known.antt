-- What is found of a cell once: its kind, what it gives for the parameters of that kind, and the bits that it connects to
-- the ports of that kind.
use Rattle.std.specs.Prelude.{ℕ, ◌≡◌, Bool, false, List, [], ◌++◌, length, get_or, map, Option, Some, None, is_some, if◌then◌else◌}
use Rattle.std.specs.List.{flat_map}
use Rattle.cif_defs.specs.Table.{kind_of, param_text, parameters_of, operands_of, outputs_of, clocks_of}
use Rattle.cif_defs.specs.RawModule.{value_named, connected, port_bits}
use Rattle.cif_defs.specs.declared.kinds.Kind.{Kind}
use Rattle.cif_defs.specs.declared.kinds.Param.{Param}
use Rattle.cif_defs.specs.declared.kinds.PortRow.{PortRow}
use Rattle.cif_defs.specs.declared.raw_module.ParamValue.{ParamValue}
use Rattle.cif_defs.specs.declared.raw_module.RawBit.{RawBit}
use Rattle.cif_defs.specs.declared.raw_module.RawCell.{RawCell}

-- ---- parameters

-- the parameters of a kind; none where the table lacks the type
abbrev pub parameters_by : Option Kind → List Param
parameters_by None = []
parameters_by (Some k) = parameters_of k

-- what a cell gives for a parameter
abbrev pub value_at : RawCell → Param → Option ParamValue
value_at c p = value_named (param_text p) c.parameters

-- ---- ports

-- some ports of a kind; none where the table lacks the type
abbrev pub rows_by : (Kind → List PortRow) → Option Kind → List PortRow
rows_by rows None = []
rows_by rows (Some k) = rows k

-- the bits that a cell connects to each of some ports of its kind
abbrev pub bits_at : (Kind → List PortRow) → RawCell → List (List RawBit)
bits_at rows c = map (port_bits c) (rows_by rows (kind_of c.kind))

abbrev pub is_connected : RawCell → PortRow → Bool
is_connected c r = is_some (connected c r)

-- whether a cell connects each of some ports of its kind
abbrev pub connected_at : (Kind → List PortRow) → RawCell → List Bool
connected_at rows c = map (is_connected c) (rows_by rows (kind_of c.kind))

-- the bits of some ports in a row
abbrev pub joined : List (List RawBit) → List RawBit
joined ports = flat_map (λ bits. bits) ports

-- the bits that a cell connects to each of these ports, and whether it connects it
pub record ArePorts (c : RawCell) (rows : List PortRow) (ports : List (List RawBit)) (are_connected : List Bool) : Type 0 where
  pub same_bits : ports ≡ map (port_bits c) rows
  pub same_connected : are_connected ≡ map (is_connected c) rows

-- the bits of port number i of some; none where it isn't connected
abbrev pub found_at : List (List RawBit) → List Bool → ℕ → Option (List RawBit)
found_at ports are_connected i = if get_or are_connected i false then Some (get_or ports i []) else None

-- ---- all of a cell: of its ports the operands, then the outputs, then the clocks

pub record IsKnown (c : RawCell) (kind : Option Kind) (values : List (Option ParamValue)) (ports : List (List RawBit)) (are_connected : List Bool) (operands_end outputs_end : ℕ) : Type 0 where
  pub same_kind : kind ≡ kind_of c.kind
  pub same_values : values ≡ map (value_at c) (parameters_by kind)
  pub same_ports : ports ≡ bits_at operands_of c ++ bits_at outputs_of c ++ bits_at clocks_of c
  pub same_connected : are_connected ≡ connected_at operands_of c ++ connected_at outputs_of c ++ connected_at clocks_of c
  pub operands : operands_end ≡ length (bits_at operands_of c)
  pub outputs : outputs_end ≡ length (bits_at operands_of c ++ bits_at outputs_of c)
