-- The netlist that a raw module stands for.
use Rattle.std.specs.Prelude.{ℕ, ◌+◌, ◌/◌, ◌%◌, ◌^◌, nat_lt, Bool, true, false, not, ◌&&◌, ◌==◌, List, [], ◌∷◌, ◌++◌, map, filter, get_or, reverse, codes, position, Option, Some, None, option_map, option_to_list, unwrap_or, pos, negsuc, if◌then◌else◌}
use Rattle.std.specs.List.{flat_map, filter_map}
use Rattle.cif_defs.specs.Words.{Word, bit, word, digit}
use Rattle.cif_defs.specs.Kinds.{role_of}
use Rattle.cif_defs.specs.declared.kinds.Role.{Role}
use Rattle.cif_defs.specs.declared.kinds.Role.TheVariants.{Combinational, PlainRegister, ResetRegister, MemoryBlock, CarriedOver}
use Rattle.cif_defs.specs.Table.{kind_of, parameters_of, is_table, is_mask, operands_of, outputs_of}
use Rattle.cif_defs.specs.RawModule.{value_named, number_given, digits_given, port_bits, output_bits, clock_bits, net_numbers}
use Rattle.cif_defs.specs.Cells.{Cell, width, state_bits}
use Rattle.cif_defs.specs.Netlist.{Netlist, no_cell}
use Rattle.cif_defs.specs.declared.kinds.Kind.{Kind}
use Rattle.cif_defs.specs.declared.kinds.Param.{Param}
use Rattle.cif_defs.specs.declared.kinds.Param.TheVariants.{Width, Init}
use Rattle.cif_defs.specs.declared.kinds.PortRow.{PortRow}
use Rattle.cif_defs.specs.declared.nets.Src.{Src}
use Rattle.cif_defs.specs.declared.nets.Src.TheVariants.{Bit, Zero, One}
use Rattle.cif_defs.specs.declared.nets.Wire.{Wire}
use Rattle.cif_defs.specs.declared.nets.Driver.{Driver}
use Rattle.cif_defs.specs.declared.nets.Driver.TheVariants.{Input, Output, Register, Read, Clock}
use Rattle.cif_defs.specs.declared.raw_module.ParamValue.{ParamValue}
use Rattle.cif_defs.specs.declared.raw_module.ParamValue.TheVariants.{Text, Number}
use Rattle.cif_defs.specs.declared.raw_module.RawBit.{RawBit}
use Rattle.cif_defs.specs.declared.raw_module.RawBit.TheVariants.{Net, Zero as ZeroText, One as OneText, X, Z}
use Rattle.cif_defs.specs.declared.raw_module.Direction.{Direction}
use Rattle.cif_defs.specs.declared.raw_module.Direction.TheVariants.{Input as InputPort, Output as OutputPort, Inout}
use Rattle.cif_defs.specs.declared.raw_module.RawPort.{RawPort}
use Rattle.cif_defs.specs.declared.raw_module.RawCell.{RawCell}
use Rattle.cif_defs.specs.declared.raw_module.RawName.{RawName}
use Rattle.cif_defs.specs.declared.raw_module.Raw.{Raw}

-- ---- bits that are read, and bits that are driven; ns are the net numbers, rising

-- the place of a number
abbrev pub place_of : List ℕ → ℕ → ℕ
place_of ns x = unwrap_or (position (λ y. y == x) ns) 0

-- x and z, which no accepted module reads, stand for 0
abbrev pub source : List ℕ → RawBit → Src
source ns (Net x) = Bit (place_of ns x)
source ns ZeroText = Zero
source ns OneText = One
source ns X = Zero
source ns Z = Zero

-- an output bit that is no net number is unconnected
abbrev pub target : List ℕ → RawBit → Option ℕ
target ns (Net x) = Some (place_of ns x)
target ns ZeroText = None
target ns OneText = None
target ns X = None
target ns Z = None

-- ---- ports

abbrev pub is_input : RawPort → Bool
is_input p = is_input_direction p.direction where
  is_input_direction : Direction → Bool
  is_input_direction InputPort = true
  is_input_direction OutputPort = false
  is_input_direction Inout = false

abbrev pub is_output : RawPort → Bool
is_output p = is_output_direction p.direction where
  is_output_direction : Direction → Bool
  is_output_direction InputPort = false
  is_output_direction OutputPort = true
  is_output_direction Inout = false

abbrev pub wire_of : List ℕ → RawPort → Wire
wire_of ns p = record { name = p.name; bits = map (source ns) p.bits }

-- ---- cells

-- the numbers of the parameters that the table names, as far as they are given
abbrev pub numbers_of : RawCell → List Param → List (Param × ℕ)
numbers_of c ps = filter_map (λ p. option_map (λ x. (p, x)) (number_given c p)) (filter (λ p. not (is_table p) && not (is_mask p)) ps)

abbrev pub tables_of : RawCell → List Param → List (Param × Word)
tables_of c ps = map (λ p. (p, digits_given c p)) (filter is_table ps)

abbrev pub cell_by : List ℕ → RawCell → Option Kind → Cell
cell_by ns c None = no_cell
cell_by ns c (Some k) = record {
  name = c.name;
  kind = k;
  numbers = numbers_of c (parameters_of k);
  digits = tables_of c (parameters_of k);
  operands = map (λ (r : PortRow). map (source ns) (port_bits c r)) (operands_of k);
  outputs = map (λ (r : PortRow). map (target ns) (port_bits c r)) (outputs_of k);
}

unfoldable pub cell_of : List ℕ → RawCell → Cell
cell_of ns c = cell_by ns c (kind_of c.kind)

-- ---- drivers: what stands at an input place or an output place of a cell drives the net number there

-- the net numbers among bits, from place i on, with what drives them by the place
abbrev pub driven_from : (ℕ → Driver) → ℕ → List RawBit → List (ℕ × Driver)
driven_from d i [] = []
driven_from d i (Net x ∷ bs) = (x, d i) ∷ driven_from d (i + 1) bs
driven_from d i (ZeroText ∷ bs) = driven_from d (i + 1) bs
driven_from d i (OneText ∷ bs) = driven_from d (i + 1) bs
driven_from d i (X ∷ bs) = driven_from d (i + 1) bs
driven_from d i (Z ∷ bs) = driven_from d (i + 1) bs

abbrev pub driven_by_inputs : ℕ → List RawPort → List (ℕ × Driver)
driven_by_inputs p [] = []
driven_by_inputs p (port ∷ ports) = driven_from (Input p) 0 port.bits ++ driven_by_inputs (p + 1) ports

-- by the outputs of a combinational cell, from output p on
abbrev pub driven_by_outputs : ℕ → ℕ → List (List RawBit) → List (ℕ × Driver)
driven_by_outputs c p [] = []
driven_by_outputs c p (bits ∷ rest) = driven_from (Output c p) 0 bits ++ driven_by_outputs c (p + 1) rest

abbrev pub driven_by_role : ℕ → Role → RawCell → Kind → List (ℕ × Driver)
driven_by_role c Combinational cell k = driven_by_outputs c 0 (map (port_bits cell) (outputs_of k))
driven_by_role c PlainRegister cell k = driven_from (Register c) 0 (output_bits cell)
driven_by_role c ResetRegister cell k = driven_from (Register c) 0 (output_bits cell)
driven_by_role c MemoryBlock cell k = driven_from (λ i. Read c (i / unwrap_or (number_given cell Width) 0) (i % unwrap_or (number_given cell Width) 0)) 0 (output_bits cell)
driven_by_role c CarriedOver cell k = []

abbrev pub driven_by_kind : ℕ → RawCell → Option Kind → List (ℕ × Driver)
driven_by_kind c cell None = []
driven_by_kind c cell (Some k) = driven_by_role c (role_of k) cell k

abbrev pub driven_by_cells : ℕ → List RawCell → List (ℕ × Driver)
driven_by_cells c [] = []
driven_by_cells c (cell ∷ cells) = driven_by_kind c cell (kind_of cell.kind) ++ driven_by_cells (c + 1) cells

-- each net number that stands at an input place or at an output place of a cell, with that place
unfoldable pub driven : Raw → List (ℕ × Driver)
driven raw = driven_by_inputs 0 (filter is_input raw.ports) ++ driven_by_cells 0 raw.cells

-- the clock bits of all cells, in order
abbrev pub all_clock_bits : Raw → List RawBit
all_clock_bits raw = flat_map clock_bits raw.cells

-- whether a net number is the clock: what stands first among the clock bits of all cells
abbrev pub is_clock : Raw → ℕ → Bool
is_clock raw x = stands_first (all_clock_bits raw) where
  stands_first : List RawBit → Bool
  stands_first (Net y ∷ bs) = y == x
  stands_first _ = false

-- what drives a number, by the first place that has it
abbrev pub driver_in : List (ℕ × Driver) → ℕ → Option Driver
driver_in [] x = None
driver_in (d ∷ ds) x = if d.0 == x then Some d.1 else driver_in ds x

abbrev pub driver_of_number : Raw → ℕ → Driver
driver_of_number raw x = if is_clock raw x then Clock else unwrap_or (driver_in (driven raw) x) Clock

-- ---- initial words

-- the digit 0 or 1 at place i of an `init` text, whose highest digit is first; another byte or a missing one gives none
abbrev pub digit_at : List ℕ → ℕ → Option Bool
digit_at text i = digit_by (get_or (reverse text) i 0) where
  digit_by : ℕ → Option Bool
  digit_by b = if b == 48 then Some false else (if b == 49 then Some true else None)

abbrev pub init_at : ParamValue → ℕ → Option Bool
init_at (Text text) i = digit_at text i
init_at (Number (pos x)) i = if nat_lt x (2 ^ 32) && nat_lt i 32 then Some (digit x i) else None
init_at (Number (negsuc x)) i = None

-- what an `init` gives for a net number at place i
abbrev pub init_for_bit : ParamValue → ℕ → ℕ → RawBit → Option Bool
init_for_bit v x i (Net y) = if y == x then init_at v i else None
init_for_bit v x i _ = None

-- every digit that an `init` gives for a net number, from place i on
abbrev pub init_digits : ParamValue → ℕ → ℕ → List RawBit → List Bool
init_digits v x i [] = []
init_digits v x i (b ∷ bs) = option_to_list (init_for_bit v x i b) ++ init_digits v x (i + 1) bs

abbrev pub init_digits_by : ℕ → List RawBit → Option ParamValue → List Bool
init_digits_by x bits None = []
init_digits_by x bits (Some v) = init_digits v x 0 bits

-- every digit that the `init` of any name gives for a net number
abbrev pub init_all : List RawName → ℕ → List Bool
init_all names x = flat_map (λ (n : RawName). init_digits_by x n.bits (value_named (codes "init") n.attributes)) names

-- the bit with which a register's output bit starts
abbrev pub initial_bit : List RawName → RawBit → Bool
initial_bit names (Net x) = get_or (init_all names x) 0 false
initial_bit names _ = false

abbrev pub no_bit : RawBit
no_bit = X

abbrev pub initial_by : List RawName → RawCell → Cell → Role → Word
initial_by names c cell PlainRegister = word (width cell) (λ i. initial_bit names (get_or (output_bits c) i no_bit))
initial_by names c cell ResetRegister = word (width cell) (λ i. initial_bit names (get_or (output_bits c) i no_bit))
initial_by names c cell MemoryBlock = word (state_bits cell) (λ i. bit (digits_given c Init) i)
initial_by names c cell Combinational = []
initial_by names c cell CarriedOver = []

-- the word with which a cell starts
unfoldable pub initial_of : List ℕ → List RawName → RawCell → Word
initial_of ns names c = initial_by names c (cell_of ns c) (role_of (cell_of ns c).kind)

-- ---- the netlist

unfoldable pub netlist_of : Raw → Netlist
netlist_of raw = record {
  inputs = map (wire_of (net_numbers raw)) (filter is_input raw.ports);
  outputs = map (wire_of (net_numbers raw)) (filter is_output raw.ports);
  cells = map (cell_of (net_numbers raw)) raw.cells;
  drivers = map (driver_of_number raw) (net_numbers raw);
  initial = map (initial_of (net_numbers raw) raw.names) raw.cells;
}
