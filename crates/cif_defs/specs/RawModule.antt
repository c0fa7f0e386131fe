-- What a raw module says of its cells: parameters in their two spellings, and connections.
use Rattle.std.specs.Prelude.{ℕ, ◌^◌, nat_lt, Bool, true, false, not, ◌&&◌, ◌==◌, List, [], ◌∷◌, ◌++◌, length, bytes_eq, Option, Some, None, option_and_then, option_map, unwrap_or, ℤ, pos, negsuc, if◌then◌else◌}
use Rattle.std.specs.List.{list_all, flat_map}
use Rattle.cif_defs.specs.Words.{Word, number, word_of}
use Rattle.cif_defs.specs.WordText.{word_of_text, is_no_digit}
use Rattle.cif_defs.specs.Table.{kind_of, param_text, port_text, operands_of, outputs_of, clocks_of}
use Rattle.cif_defs.specs.declared.kinds.Kind.{Kind}
use Rattle.cif_defs.specs.declared.kinds.Param.{Param}
use Rattle.cif_defs.specs.declared.kinds.PortRow.{PortRow}
use Rattle.cif_defs.specs.declared.raw_module.ParamValue.{ParamValue}
use Rattle.cif_defs.specs.declared.raw_module.ParamValue.TheVariants.{Text, Number}
use Rattle.cif_defs.specs.declared.raw_module.RawParam.{RawParam}
use Rattle.cif_defs.specs.declared.raw_module.RawBit.{RawBit}
use Rattle.cif_defs.specs.declared.raw_module.RawBit.TheVariants.{Net, Zero, One, X, Z}
use Rattle.cif_defs.specs.declared.raw_module.Connection.{Connection}
use Rattle.cif_defs.specs.declared.raw_module.RawPort.{RawPort}
use Rattle.cif_defs.specs.declared.raw_module.RawCell.{RawCell}
use Rattle.cif_defs.specs.declared.raw_module.Raw.{Raw}

-- ---- parameters

-- the value of the first parameter of a name
abbrev pub value_named : List ℕ → List RawParam → Option ParamValue
value_named name [] = None
value_named name (p ∷ ps) = if bytes_eq p.name name then Some p.value else value_named name ps

-- one or more binary digits
abbrev pub is_binary : List ℕ → Bool
is_binary text = nat_lt 0 (length text) && list_all (λ b. not (is_no_digit b)) text

-- x, where it is below 2 ^ 32
abbrev pub below_limit : ℕ → Option ℕ
below_limit x = if nat_lt x (2 ^ 32) then Some x else None

abbrev pub below_limit_int : ℤ → Option ℕ
below_limit_int (pos x) = below_limit x
below_limit_int (negsuc x) = None

-- the number of a value: binary digits, highest first, or a whole number, in both cases below 2 ^ 32
unfoldable pub needed_number : ParamValue → Option ℕ
needed_number (Text text) = if is_binary text then below_limit (number (word_of_text text)) else None
needed_number (Number z) = below_limit_int z

-- the number that a cell gives for a parameter
abbrev pub number_given : RawCell → Param → Option ℕ
number_given c p = option_and_then needed_number (value_named (param_text p) c.parameters)

abbrev pub int_digits : ℤ → Word
int_digits (pos x) = word_of 32 x
int_digits (negsuc x) = []

-- the digits of a value, lowest first, where x and z are 0; a whole number stands for its 32 binary digits
unfoldable pub digits_read : ParamValue → Word
digits_read (Text text) = word_of_text text
digits_read (Number z) = int_digits z

-- the digits that a cell gives for a parameter
abbrev pub digits_given : RawCell → Param → Word
digits_given c p = unwrap_or (option_map digits_read (value_named (param_text p) c.parameters)) []

-- ---- connections

-- the bits of the first connection of a name
abbrev pub bits_named : List ℕ → List Connection → Option (List RawBit)
bits_named name [] = None
bits_named name (x ∷ xs) = if bytes_eq x.name name then Some x.bits else bits_named name xs

-- the bits that a cell connects to a port
abbrev pub connected : RawCell → PortRow → Option (List RawBit)
connected c r = bits_named (port_text r.port) c.connections

-- the same, where none stand for a port that isn't connected
abbrev pub port_bits : RawCell → PortRow → List RawBit
port_bits c r = unwrap_or (connected c r) []

-- the bits that a cell connects to these ports; none where the table lacks its type
abbrev pub bits_by : (Kind → List PortRow) → RawCell → Option Kind → List RawBit
bits_by rows c None = []
bits_by rows c (Some k) = flat_map (port_bits c) (rows k)

abbrev pub operand_bits : RawCell → List RawBit
operand_bits c = bits_by operands_of c (kind_of c.kind)

abbrev pub output_bits : RawCell → List RawBit
output_bits c = bits_by outputs_of c (kind_of c.kind)

abbrev pub clock_bits : RawCell → List RawBit
clock_bits c = bits_by clocks_of c (kind_of c.kind)

-- ---- net numbers

-- the net numbers among some bits
abbrev pub nets_in : List RawBit → List ℕ
nets_in [] = []
nets_in (Net n ∷ bs) = n ∷ nets_in bs
nets_in (Zero ∷ bs) = nets_in bs
nets_in (One ∷ bs) = nets_in bs
nets_in (X ∷ bs) = nets_in bs
nets_in (Z ∷ bs) = nets_in bs

abbrev pub is_net : RawBit → Bool
is_net (Net n) = true
is_net Zero = false
is_net One = false
is_net X = false
is_net Z = false

-- the net numbers that a module port, or an operand, an output or a clock of a cell, holds
abbrev pub numbers_held : Raw → List ℕ
numbers_held raw =
    flat_map (λ (p : RawPort). nets_in p.bits) raw.ports ++
    flat_map (λ (c : RawCell). nets_in (operand_bits c) ++ nets_in (output_bits c) ++ nets_in (clock_bits c)) raw.cells

-- a rising list, with a number put in at its place where it isn't there
abbrev pub put_in : ℕ → List ℕ → List ℕ
put_in x [] = x ∷ []
put_in x (y ∷ ys) = if nat_lt x y then x ∷ y ∷ ys else (if x == y then y ∷ ys else y ∷ put_in x ys)

-- the distinct numbers of a list, rising
abbrev pub rising : List ℕ → List ℕ
rising [] = []
rising (x ∷ xs) = put_in x (rising xs)

-- the net numbers of a module, rising: a net bit is the place of one
unfoldable pub net_numbers : Raw → List ℕ
net_numbers raw = rising (numbers_held raw)
