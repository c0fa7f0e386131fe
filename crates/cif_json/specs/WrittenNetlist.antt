-- What is written for a module: the value of a netlist file, and its text.
use Rattle.std.specs.Prelude.{◌≡◌, ℕ, Bool, false, ◌||◌, List, [], ◌∷◌, ◌++◌, codes, bytes_eq, Option, Some, None, option_and_then, Result, OnOk, if◌then◌else◌}
use Rattle.std.specs.List.{list_any}
use Rattle.json.specs.Token.{Token}
use Rattle.json.specs.Tree.{json_tokens}
use Rattle.json.specs.Written.{Written as Writing}
use Rattle.serde_json.specs.Data.{unsigned, Data, number, string, array, object, Items, no_items, item, Members, no_members, member}
use Rattle.serde_json.specs.Find.{of_integer}
use Rattle.serde_json.specs.Written.{outline, compact_text}
use Rattle.cif_defs.specs.Text.{line_end}
use Rattle.cif_defs.specs.Table.{kind_of, port_text, operands_of, outputs_of, clocks_of}
use Rattle.cif_defs.specs.declared.kinds.Kind.{Kind}
use Rattle.cif_defs.specs.declared.kinds.Kind.TheVariants.{Mem}
use Rattle.cif_defs.specs.declared.kinds.PortRow.{PortRow}
use Rattle.cif_defs.specs.declared.raw_module.RawBit.{RawBit}
use Rattle.cif_defs.specs.declared.raw_module.RawBit.TheVariants.{Net, Zero, One, X, Z}
use Rattle.cif_defs.specs.declared.raw_module.ParamValue.{ParamValue}
use Rattle.cif_defs.specs.declared.raw_module.ParamValue.TheVariants.{Text, Number}
use Rattle.cif_defs.specs.declared.raw_module.RawParam.{RawParam}
use Rattle.cif_defs.specs.declared.raw_module.Connection.{Connection}
use Rattle.cif_defs.specs.declared.raw_module.Direction.{Direction}
use Rattle.cif_defs.specs.declared.raw_module.Direction.TheVariants.{Input, Output, Inout}
use Rattle.cif_defs.specs.declared.raw_module.RawPort.{RawPort}
use Rattle.cif_defs.specs.declared.raw_module.RawCell.{RawCell}
use Rattle.cif_defs.specs.declared.raw_module.RawName.{RawName}
use Rattle.cif_defs.specs.declared.raw_module.Raw.{Raw}

-- ---- bits, values and flags

-- a net number, or one of four texts
abbrev pub bit_data : RawBit → Data
bit_data (Net n) = number (unsigned n)
bit_data Zero = string (codes "0")
bit_data One = string (codes "1")
bit_data X = string (codes "x")
bit_data Z = string (codes "z")

abbrev pub bit_items : List RawBit → Items
bit_items [] = no_items
bit_items (b ∷ bs) = item (bit_data b) (bit_items bs)

abbrev pub bits_data : List RawBit → Data
bits_data bits = array (bit_items bits)

-- a text, or a whole number
abbrev pub value_data : ParamValue → Data
value_data (Text text) = string text
value_data (Number z) = number (of_integer z)

-- 1 where it is set
abbrev pub flag_data : Bool → Data
flag_data hide = number (unsigned (if hide then 1 else 0))

abbrev pub direction_text : Direction → List ℕ
direction_text Input = codes "input"
direction_text Output = codes "output"
direction_text Inout = codes "inout"

abbrev pub direction_data : Direction → Data
direction_data direction = string (direction_text direction)

-- ---- objects that have a member for each of some things

abbrev pub members_by : {A : Type 0} → (A → List ℕ) → (A → Data) → List A → Members
members_by name_of data_of [] = no_members
members_by name_of data_of (x ∷ xs) = member (name_of x) (data_of x) (members_by name_of data_of xs)

abbrev pub param_name : RawParam → List ℕ
param_name p = p.name

abbrev pub param_data : RawParam → Data
param_data p = value_data p.value

abbrev pub params_data : List RawParam → Data
params_data params = object (members_by param_name param_data params)

abbrev pub connection_name : Connection → List ℕ
connection_name x = x.name

abbrev pub connection_data : Connection → Data
connection_data x = bits_data x.bits

abbrev pub connections_data : List Connection → Data
connections_data connections = object (members_by connection_name connection_data connections)

-- ---- the directions of a cell's ports

-- whether a port is one of those of a memory that are passed over
abbrev pub is_ignored : List ℕ → Kind → Bool
is_ignored name Mem = bytes_eq name (codes "RD_CLK") || bytes_eq name (codes "RD_EN") || bytes_eq name (codes "RD_ARST") || bytes_eq name (codes "RD_SRST")
is_ignored name _ = false

-- whether one of these is the port of this name
abbrev pub has_port : List ℕ → List PortRow → Bool
has_port name rows = list_any (λ (r : PortRow). bytes_eq (port_text r.port) name) rows

-- the direction of a port, where the table names it for the kind; clocks and ports that are passed over are inputs
abbrev pub port_direction : List ℕ → Kind → Option Direction
port_direction name k =
    if has_port name (outputs_of k) then Some Output else
    if has_port name (operands_of k) || has_port name (clocks_of k) || is_ignored name k then Some Input else None

-- the same by the text of the cell's type
abbrev pub direction_in : List ℕ → List ℕ → Option Direction
direction_in kind name = option_and_then (port_direction name) (kind_of kind)

abbrev pub with_direction : List ℕ → Option Direction → Members → Members
with_direction name None ms = ms
with_direction name (Some direction) ms = member name (direction_data direction) ms

-- a member for each connection whose port the table names
abbrev pub directions : List ℕ → List Connection → Members
directions kind [] = no_members
directions kind (x ∷ xs) = with_direction x.name (direction_in kind x.name) (directions kind xs)

-- ---- ports, cells and named nets, each with its members in byte order

abbrev pub port_data : RawPort → Data
port_data p = object (
    member (codes "bits") (bits_data p.bits) (
    member (codes "direction") (direction_data p.direction)
    no_members))

abbrev pub cell_data : RawCell → Data
cell_data c = object (
    member (codes "attributes") (params_data c.attributes) (
    member (codes "connections") (connections_data c.connections) (
    member (codes "hide_name") (flag_data c.hide) (
    member (codes "parameters") (params_data c.parameters) (
    member (codes "port_directions") (object (directions c.kind c.connections)) (
    member (codes "type") (string c.kind)
    no_members))))))

abbrev pub net_data : RawName → Data
net_data n = object (
    member (codes "attributes") (params_data n.attributes) (
    member (codes "bits") (bits_data n.bits) (
    member (codes "hide_name") (flag_data n.hide)
    no_members)))

abbrev pub port_name : RawPort → List ℕ
port_name p = p.name

abbrev pub cell_name : RawCell → List ℕ
cell_name c = c.name

abbrev pub net_name : RawName → List ℕ
net_name n = n.name

abbrev pub ports_data : List RawPort → Data
ports_data ports = object (members_by port_name port_data ports)

abbrev pub cells_data : List RawCell → Data
cells_data cells = object (members_by cell_name cell_data cells)

abbrev pub nets_data : List RawName → Data
nets_data nets = object (members_by net_name net_data nets)

-- ---- the file

abbrev pub module_data : Raw → Data
module_data raw = object (
    member (codes "attributes") (params_data raw.attributes) (
    member (codes "cells") (cells_data raw.cells) (
    member (codes "netnames") (nets_data raw.names) (
    member (codes "ports") (ports_data raw.ports)
    no_members))))

-- the one module
abbrev pub modules_data : Raw → Data
modules_data raw = object (member raw.«module» (module_data raw) no_members)

abbrev pub file_data : Raw → Data
file_data raw = object (
    member (codes "creator") (string (codes "cellift")) (
    member (codes "modules") (modules_data raw)
    no_members))

-- compact JSON, and the end of the line
unfoldable pub netlist_text : Raw → List ℕ
netlist_text raw = compact_text (file_data raw) ++ line_end ∷ []

-- ---- for private clauses

abbrev pub data_tokens : Data → List Token
data_tokens d = json_tokens (outline d)

-- the writer has the tokens of this value after those that it had
abbrev pub Adds : {E : Type 0} → Result (Unit {0}) E → Writing → Writing → Data → Type 0
Adds r old new d = OnOk r ((new.before ≡ old.before) × (new.tokens ≡ old.tokens ++ data_tokens d))
