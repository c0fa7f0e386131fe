-- The checks of a raw module, in their order: seven passes, each of which gives the first fault that it finds.
use Rattle.std.specs.Prelude.{ℕ, ◌+◌, ◌*◌, ◌≤◌, nat_lt, ◌≡◌, Bool, true, false, not, ◌&&◌, ◌||◌, ◌==◌, List, [], ◌∷◌, ◌++◌, map, filter, length, sum, Option, Some, None, option_and_then, unwrap_or, is_some, if◌then◌else◌}
use Rattle.std.specs.List.{list_any, list_all, flat_map, range_with_len}
use Rattle.cif_defs.specs.Words.{Word, bit}
use Rattle.cif_defs.specs.Kinds.{role_of}
use Rattle.cif_defs.specs.declared.kinds.Role.{Role}
use Rattle.cif_defs.specs.declared.kinds.Role.TheVariants.{PlainRegister, ResetRegister, MemoryBlock}
use Rattle.cif_defs.specs.Table.{kind_of, param_text, port_text, parameters_of, is_table, is_mask, operands_of, outputs_of, ports_of, width_by, width_limit}
use Rattle.cif_defs.specs.RawModule.{value_named, below_limit_int, number_given, digits_given, connected, port_bits, output_bits, clock_bits, operand_bits, nets_in, net_numbers, is_net}
use Rattle.cif_defs.specs.Accepted.{is_input, is_output, driven, driver_in, init_all}
use Rattle.cif_defs.specs.declared.kinds.Kind.{Kind}
use Rattle.cif_defs.specs.declared.kinds.Kind.TheVariants.{Slice, Mem}
use Rattle.cif_defs.specs.declared.kinds.Param.{Param}
use Rattle.cif_defs.specs.declared.kinds.Param.TheVariants.{AWidth, YWidth, Width, Offset, Size, Abits, ClkPolarity, RdPorts, WrPorts, RdClkEnable, RdWideContinuation, WrClkEnable, WrClkPolarity, WrWideContinuation}
use Rattle.cif_defs.specs.declared.kinds.CellPort.{CellPort as CellPortName}
use Rattle.cif_defs.specs.declared.kinds.CellPort.TheVariants.{WrEn}
use Rattle.cif_defs.specs.declared.kinds.PortRow.{PortRow}
use Rattle.cif_defs.specs.declared.raw_module.ParamValue.{ParamValue}
use Rattle.cif_defs.specs.declared.raw_module.ParamValue.TheVariants.{Text, Number}
use Rattle.cif_defs.specs.declared.raw_module.Direction.{Direction}
use Rattle.cif_defs.specs.declared.raw_module.Direction.TheVariants.{Input, Output, Inout}
use Rattle.cif_defs.specs.declared.raw_module.RawBit.{RawBit}
use Rattle.cif_defs.specs.declared.raw_module.RawBit.TheVariants.{Net, Zero, One, X, Z}
use Rattle.cif_defs.specs.declared.raw_module.RawPort.{RawPort}
use Rattle.cif_defs.specs.declared.raw_module.RawCell.{RawCell}
use Rattle.cif_defs.specs.declared.raw_module.RawName.{RawName}
use Rattle.cif_defs.specs.declared.raw_module.Raw.{Raw}
use Rattle.cif_checks.specs.declared.fault.Spot.{Spot}
use Rattle.cif_checks.specs.declared.fault.Spot.TheVariants.{Port, CellPort}
use Rattle.cif_checks.specs.declared.fault.BuildFault.{BuildFault}
use Rattle.cif_checks.specs.declared.fault.BuildFault.TheVariants.{UnsupportedCell, MissingPort, WidthMismatch, WidthLimit, BadParameter, XOperand, MultiDriven, Undriven, ConstantOutput, TwoClocks, ClockAsData, InoutPort, InitConflict, MemoryForm, TooManyCells, TooManyBits, ZeroWidth, NoClockInput, PortClash, Memory}

-- ---- refusals in order

-- the fault of the first check, or else of the next
infixl 20 ◌else_by◌
abbrev pub ◌else_by◌ : Option BuildFault → Option BuildFault → Option BuildFault
None else_by next = next
Some fault else_by next = Some fault

-- a fault, where a test fails
abbrev pub fault_if : Bool → BuildFault → Option BuildFault
fault_if b fault = if b then Some fault else None

-- the fault of the first item that has one
abbrev pub first_fault : {A : Type 0} → (A → Option BuildFault) → List A → Option BuildFault
first_fault check [] = None
first_fault check (x ∷ xs) = check x else_by first_fault check xs

-- the same, where each check is told the place of its item, from place i on
abbrev pub first_fault_from : {A : Type 0} → (ℕ → A → Option BuildFault) → ℕ → List A → Option BuildFault
first_fault_from check i [] = None
first_fault_from check i (x ∷ xs) = check i x else_by first_fault_from check (i + 1) xs

-- an answer is the first fault, but for want of memory, which says nothing of the module
abbrev pub IsFirst : Option BuildFault → BuildFault → Type 0
IsFirst found Memory = Unit {0}
IsFirst found fault = found ≡ Some fault

-- ---- pass 1: counts

abbrev pub cell_limit : ℕ
cell_limit = 400000

abbrev pub net_limit : ℕ
net_limit = 4194304

unfoldable pub counts_fault : Raw → Option BuildFault
counts_fault raw =
    fault_if (nat_lt cell_limit (length raw.cells)) (TooManyCells (length raw.cells))
    else_by fault_if (nat_lt net_limit (length (net_numbers raw))) (TooManyBits (length (net_numbers raw)))

-- ---- pass 2: ports of the module

abbrev pub port_limit : ℕ
port_limit = 4096

abbrev pub is_inout : Direction → Bool
is_inout Input = false
is_inout Output = false
is_inout Inout = true

abbrev pub has_number : ℕ → List ℕ → Bool
has_number x xs = list_any (λ y. y == x) xs

-- the first bit that isn't a net number
abbrev pub constant_input : RawPort → Option BuildFault
constant_input p = first_fault_from (λ i b. fault_if (not (is_net b)) (ConstantOutput (Port p.name) i)) 0 p.bits

-- the first net number that stands at an earlier input place; seen are the numbers at earlier ones
abbrev pub input_clash : List ℕ → List ℕ → Option BuildFault
input_clash seen [] = None
input_clash seen (x ∷ xs) = fault_if (has_number x seen) (PortClash x) else_by input_clash (x ∷ seen) xs

abbrev pub input_fault : List ℕ → RawPort → Option BuildFault
input_fault seen p = if is_input p then constant_input p else_by input_clash seen (nets_in p.bits) else None

abbrev pub port_fault : List ℕ → RawPort → Option BuildFault
port_fault seen p =
    fault_if (is_inout p.direction) (InoutPort p.name)
    else_by fault_if (length p.bits == 0) (ZeroWidth (Port p.name))
    else_by fault_if (nat_lt port_limit (length p.bits)) (WidthLimit (Port p.name))
    else_by input_fault seen p

-- the net numbers at input places once a port is read
abbrev pub seen_after : List ℕ → RawPort → List ℕ
seen_after seen p = if is_input p then nets_in p.bits ++ seen else seen

abbrev pub ports_fault_from : List ℕ → List RawPort → Option BuildFault
ports_fault_from seen [] = None
ports_fault_from seen (p ∷ ps) = port_fault seen p else_by ports_fault_from (seen_after seen p) ps

unfoldable pub ports_fault : Raw → Option BuildFault
ports_fault raw = ports_fault_from [] raw.ports

-- ---- pass 3: cells, one by one, over the table of kinds

-- a digit of a text that may hold x and z: one of `0`, `1`, `x` and `z`
abbrev pub is_table_digit : ℕ → Bool
is_table_digit b = b == 48 || b == 49 || b == 120 || b == 122

abbrev pub is_table_value : ParamValue → Bool
is_table_value (Text text) = list_all is_table_digit text
is_table_value (Number z) = is_some (below_limit_int z)

abbrev pub has_table : RawCell → Param → Bool
has_table c p = is_some (option_and_then (λ v. if is_table_value v then Some v else None) (value_named (param_text p) c.parameters))

abbrev pub has_value : RawCell → Param → Bool
has_value c p = if is_table p || is_mask p then has_table c p else is_some (number_given c p)

abbrev pub bad_parameter : RawCell → Param → BuildFault
bad_parameter c p = BadParameter c.name (param_text p)

-- the number of a parameter, where it is given
abbrev pub number_or_0 : RawCell → Param → ℕ
number_or_0 c p = unwrap_or (number_given c p) 0

-- a slice must lie inside its operand
abbrev pub slice_fault : RawCell → Kind → Option BuildFault
slice_fault c Slice = fault_if (nat_lt (number_or_0 c AWidth) (number_or_0 c Offset + number_or_0 c YWidth)) (bad_parameter c Offset)
slice_fault c _ = None

abbrev pub parameters_fault : RawCell → Kind → Option BuildFault
parameters_fault c k = first_fault (λ p. fault_if (not (has_value c p)) (bad_parameter c p)) (parameters_of k) else_by slice_fault c k

-- the digits of a mask that some ports use
abbrev pub mask_digits : RawCell → Param → ℕ → Word
mask_digits c p ports = map (λ i. bit (digits_given c p) i) (range_with_len 0 ports)

abbrev pub has_digit : Bool → Word → Bool
has_digit d w = list_any (λ b. if d then b else not b) w

abbrev pub has_bad_form : RawCell → Bool
has_bad_form c =
    number_or_0 c Width == 0 || number_or_0 c Size == 0 || number_or_0 c Abits == 0 || nat_lt 32 (number_or_0 c Abits)
    || has_digit true (mask_digits c RdClkEnable (number_or_0 c RdPorts)) || has_digit true (mask_digits c RdWideContinuation (number_or_0 c RdPorts))
    || has_digit false (mask_digits c WrClkEnable (number_or_0 c WrPorts)) || has_digit true (mask_digits c WrWideContinuation (number_or_0 c WrPorts))

abbrev pub memory_form : RawCell → Role → Option BuildFault
memory_form c MemoryBlock = fault_if (has_bad_form c) (MemoryForm c.name)
memory_form c _ = None

abbrev pub row_width : RawCell → PortRow → ℕ
row_width c r = width_by (number_or_0 c) r.width

abbrev pub cell_spot : RawCell → PortRow → Spot
cell_spot c r = CellPort c.name (port_text r.port)

-- the joined ports of a memory may be empty
abbrev pub may_be_empty : Role → Bool
may_be_empty MemoryBlock = true
may_be_empty _ = false

abbrev pub zero_width : RawCell → Kind → PortRow → Option BuildFault
zero_width c k r = fault_if (row_width c r == 0 && not (may_be_empty (role_of k))) (ZeroWidth (cell_spot c r))

abbrev pub is_write_enable : CellPortName → Bool
is_write_enable WrEn = true
is_write_enable _ = false

-- a memory's WIDTH has a limit of its own, at WR_EN
abbrev pub is_wide_memory : RawCell → Kind → PortRow → Bool
is_wide_memory c Mem r = is_write_enable r.port && nat_lt port_limit (number_or_0 c Width)
is_wide_memory c _ r = false

abbrev pub too_wide : RawCell → Kind → PortRow → Option BuildFault
too_wide c k r = fault_if (nat_lt (width_limit k r.port) (row_width c r) || is_wide_memory c k r) (WidthLimit (cell_spot c r))

abbrev pub missing_port : RawCell → PortRow → Option BuildFault
missing_port c r = fault_if (not (is_some (connected c r))) (MissingPort c.name (port_text r.port))

abbrev pub wrong_width : RawCell → PortRow → Option BuildFault
wrong_width c r = fault_if (not (length (port_bits c r) == row_width c r)) (WidthMismatch c.name (port_text r.port))

abbrev pub is_constant : RawBit → Bool
is_constant Zero = true
is_constant One = true
is_constant (Net x) = false
is_constant X = false
is_constant Z = false

abbrev pub constant_output : RawCell → PortRow → Option BuildFault
constant_output c r = first_fault_from (λ i b. fault_if (is_constant b) (ConstantOutput (cell_spot c r) i)) 0 (port_bits c r)

abbrev pub known_cell_fault : RawCell → Kind → Option BuildFault
known_cell_fault c k =
    parameters_fault c k
    else_by memory_form c (role_of k)
    else_by first_fault (zero_width c k) (ports_of k)
    else_by first_fault (too_wide c k) (ports_of k)
    else_by first_fault (missing_port c) (ports_of k)
    else_by first_fault (wrong_width c) (ports_of k)
    else_by first_fault (constant_output c) (outputs_of k)

abbrev pub cell_fault_by : RawCell → Option Kind → Option BuildFault
cell_fault_by c None = Some (UnsupportedCell c.name c.kind)
cell_fault_by c (Some k) = known_cell_fault c k

unfoldable pub cell_fault : RawCell → Option BuildFault
cell_fault c = cell_fault_by c (kind_of c.kind)

-- the memory bits of a cell
abbrev pub memory_size_by : RawCell → Option Kind → ℕ
memory_size_by c None = 0
memory_size_by c (Some k) = memory_size_as (role_of k) where
  memory_size_as : Role → ℕ
  memory_size_as MemoryBlock = number_or_0 c Size * number_or_0 c Width
  memory_size_as _ = 0

abbrev pub memory_size : RawCell → ℕ
memory_size c = memory_size_by c (kind_of c.kind)

abbrev pub memory_limit : ℕ
memory_limit = 16777216

abbrev pub memory_bits_fault : Raw → Option BuildFault
memory_bits_fault raw = fault_if (nat_lt memory_limit (sum (map memory_size raw.cells))) (TooManyBits (sum (map memory_size raw.cells)))

unfoldable pub cells_fault : Raw → Option BuildFault
cells_fault raw = first_fault cell_fault raw.cells else_by memory_bits_fault raw

-- ---- pass 4: two drivers

-- how often a number stands in a list
abbrev pub is_twice : List ℕ → ℕ → Bool
is_twice xs x = nat_lt 1 (length (filter (λ y. y == x) xs))

-- the net numbers that are driven, once for each place
abbrev pub driven_numbers : Raw → List ℕ
driven_numbers raw = map (λ d. d.0) (driven raw)

-- the least of the net numbers that has two places
unfoldable pub drivers_fault : Raw → Option BuildFault
drivers_fault raw = first_fault (λ x. fault_if (is_twice (driven_numbers raw) x) (MultiDriven x)) (net_numbers raw)

-- ---- pass 5: the clock

-- a clock: what stands at the port, and the polarity
pub record ClockUse : Type 0 where
  pub user : RawCell
  pub bit : RawBit
  pub polarity : ℕ

abbrev pub digit_number : Bool → ℕ
digit_number b = if b then 1 else 0

-- the polarity of clock number i of a cell: a register's number, or the digit of a write port
abbrev pub polarity_by : RawCell → Role → ℕ → ℕ
polarity_by c MemoryBlock i = digit_number (bit (digits_given c WrClkPolarity) i)
polarity_by c _ i = number_or_0 c ClkPolarity

abbrev pub uses_from : RawCell → Role → ℕ → List RawBit → List ClockUse
uses_from c role i [] = []
uses_from c role i (b ∷ bs) = record { user = c; bit = b; polarity = polarity_by c role i } ∷ uses_from c role (i + 1) bs

abbrev pub clock_uses_by : RawCell → Option Kind → List ClockUse
clock_uses_by c None = []
clock_uses_by c (Some k) = uses_from c (role_of k) 0 (clock_bits c)

-- each use of a clock, cell by cell and write port by write port
abbrev pub clock_uses : Raw → List ClockUse
clock_uses raw = flat_map (λ (c : RawCell). clock_uses_by c (kind_of c.kind)) raw.cells

abbrev pub is_only_bit : ℕ → List RawBit → Bool
is_only_bit x (Net y ∷ []) = y == x
is_only_bit x _ = false

-- the bit of an input port of one bit
abbrev pub is_clock_input : List RawPort → RawBit → Bool
is_clock_input ports (Net x) = list_any (λ (p : RawPort). is_input p && is_only_bit x p.bits) ports
is_clock_input ports _ = false

abbrev pub is_same_bit : RawBit → RawBit → Bool
is_same_bit (Net x) (Net y) = x == y
is_same_bit _ _ = false

-- a use of the clock, where first is the first use
abbrev pub clock_fault : List RawPort → ClockUse → ClockUse → Option BuildFault
clock_fault ports first later =
    fault_if (not (is_clock_input ports later.bit)) (NoClockInput later.user.name)
    else_by fault_if (not (is_same_bit first.bit later.bit && first.polarity == later.polarity)) (TwoClocks later.user.name)

abbrev pub reads_number : ℕ → List RawBit → Bool
reads_number x bits = has_number x (nets_in bits)

-- the clock as data: an operand of a cell, or else an output port
abbrev pub data_fault : Raw → RawBit → Option BuildFault
data_fault raw (Net x) =
    first_fault (λ (c : RawCell). fault_if (reads_number x (operand_bits c)) (ClockAsData c.name)) raw.cells
    else_by first_fault (λ (p : RawPort). fault_if (reads_number x p.bits) (ClockAsData p.name)) (filter is_output raw.ports)
data_fault raw _ = None

abbrev pub uses_fault : Raw → List ClockUse → Option BuildFault
uses_fault raw [] = None
uses_fault raw (first ∷ rest) = first_fault (clock_fault raw.ports first) (first ∷ rest) else_by data_fault raw first.bit

unfoldable pub clocks_fault : Raw → Option BuildFault
clocks_fault raw = uses_fault raw (clock_uses raw)

-- ---- pass 6: bits that are read

-- one bit at a place: x or z, or a net number without driver
abbrev pub read_fault : Raw → Spot → ℕ → RawBit → Option BuildFault
read_fault raw spot i (Net x) = fault_if (not (is_some (driver_in (driven raw) x))) (Undriven x)
read_fault raw spot i Zero = None
read_fault raw spot i One = None
read_fault raw spot i X = Some (XOperand spot i)
read_fault raw spot i Z = Some (XOperand spot i)

abbrev pub operand_fault : Raw → RawCell → PortRow → Option BuildFault
operand_fault raw c r = first_fault_from (read_fault raw (cell_spot c r)) 0 (port_bits c r)

abbrev pub operands_fault_by : Raw → RawCell → Option Kind → Option BuildFault
operands_fault_by raw c None = None
operands_fault_by raw c (Some k) = first_fault (operand_fault raw c) (operands_of k)

abbrev pub shown_fault : Raw → RawPort → Option BuildFault
shown_fault raw p = first_fault_from (read_fault raw (Port p.name)) 0 p.bits

unfoldable pub reads_fault : Raw → Option BuildFault
reads_fault raw =
    first_fault (λ (c : RawCell). operands_fault_by raw c (kind_of c.kind)) raw.cells
    else_by first_fault (shown_fault raw) (filter is_output raw.ports)

-- ---- pass 7: initial values

-- whether `init` attributes give a net number this bit
abbrev pub gives_init : List RawName → ℕ → Bool → Bool
gives_init names x d = list_any (λ e. if d then e else not e) (init_all names x)

abbrev pub is_register : Role → Bool
is_register PlainRegister = true
is_register ResetRegister = true
is_register _ = false

abbrev pub register_numbers_by : RawCell → Option Kind → List ℕ
register_numbers_by c None = []
register_numbers_by c (Some k) = if is_register (role_of k) then nets_in (output_bits c) else []

-- the net numbers of register outputs
abbrev pub register_numbers : Raw → List ℕ
register_numbers raw = flat_map (λ (c : RawCell). register_numbers_by c (kind_of c.kind)) raw.cells

unfoldable pub inits_fault : Raw → Option BuildFault
inits_fault raw = first_fault (λ x. fault_if (has_number x (register_numbers raw) && gives_init raw.names x false && gives_init raw.names x true) (InitConflict x)) (net_numbers raw)

-- ---- all passes

-- the first check that fails
unfoldable pub build_fault : Raw → Option BuildFault
build_fault raw =
    counts_fault raw else_by ports_fault raw else_by cells_fault raw else_by drivers_fault raw
    else_by clocks_fault raw else_by reads_fault raw else_by inits_fault raw

-- a module that no check refuses
abbrev pub IsAccepted : Raw → Type 0
IsAccepted raw = build_fault raw ≡ None

-- ---- the same, apart into counts and the rest

-- no more cells, net bits and memory bits than the limits
pub record IsWithinCounts (raw : Raw) : Type 0 where
  pub cells : length raw.cells ≤ cell_limit
  pub bits : length (net_numbers raw) ≤ net_limit
  pub memory : sum (map memory_size raw.cells) ≤ memory_limit

-- the first check that fails, but for the counts
unfoldable pub form_fault : Raw → Option BuildFault
form_fault raw =
    ports_fault raw else_by first_fault cell_fault raw.cells else_by drivers_fault raw
    else_by clocks_fault raw else_by reads_fault raw else_by inits_fault raw

-- a module that passes all checks but, maybe, the counts
abbrev pub IsWellFormed : Raw → Type 0
IsWellFormed raw = form_fault raw ≡ None
