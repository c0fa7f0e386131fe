-- What an augmented module has beside the original one goes by names made of those there: this is how they are made, and
-- which ports and cells they are made for.
use Rattle.std.specs.Prelude.{ℕ, nat_lt, Bool, true, false, not, ◌&&◌, List, ◌++◌, filter, codes, Option, Some, None}
use Rattle.std.specs.List.{list_any}
use Rattle.std.specs.Fmt.{decimal}
use Rattle.cif_defs.specs.Kinds.{role_of, is_memory}
use Rattle.cif_defs.specs.Table.{kind_of}
use Rattle.cif_defs.specs.Accepted.{is_clock}
use Rattle.cif_defs.specs.declared.kinds.Kind.{Kind}
use Rattle.cif_defs.specs.declared.kinds.Role.{Role}
use Rattle.cif_defs.specs.declared.kinds.Role.TheVariants.{Combinational, PlainRegister, ResetRegister, MemoryBlock, CarriedOver}
use Rattle.cif_defs.specs.declared.kinds.Param.TheVariants.{WrPorts}
use Rattle.cif_defs.specs.declared.raw_module.RawBit.{RawBit}
use Rattle.cif_defs.specs.declared.raw_module.RawBit.TheVariants.{Net, Zero, One, X, Z}
use Rattle.cif_defs.specs.declared.raw_module.RawPort.{RawPort}
use Rattle.cif_defs.specs.declared.raw_module.RawCell.{RawCell}
use Rattle.cif_defs.specs.declared.raw_module.Raw.{Raw}
use Rattle.cif_checks.specs.Checks.{number_or_0}

-- ---- names

-- the taint of a port, or what a register or a memory stores of taint
abbrev pub taint_name : List ℕ → List ℕ
taint_name name = name ++ codes "__t"

-- the flag of a memory
abbrev pub flag_name : List ℕ → List ℕ
flag_name name = name ++ codes "__flag"

-- the stored word of a register with asynchronous reset
abbrev pub stored_name : List ℕ → List ℕ
stored_name name = name ++ codes "__v"

-- a further cell for a cell, by its number
abbrev pub numbered_name : List ℕ → ℕ → List ℕ
numbered_name name i = name ++ codes "__t" ++ decimal i

-- ---- ports

abbrev pub is_clock_bit : Raw → RawBit → Bool
is_clock_bit raw (Net x) = is_clock raw x
is_clock_bit raw Zero = false
is_clock_bit raw One = false
is_clock_bit raw X = false
is_clock_bit raw Z = false

-- any port but the clock
abbrev pub is_data_port : Raw → RawPort → Bool
is_data_port raw p = not (list_any (is_clock_bit raw) p.bits)

unfoldable pub data_ports : Raw → List RawPort
data_ports raw = filter (is_data_port raw) raw.ports

-- ---- cells

abbrev pub has_role_by : (Role → Bool) → Option Kind → Bool
has_role_by test None = false
has_role_by test (Some k) = test (role_of k)

-- whether the role of a cell passes a test
abbrev pub has_role : (Role → Bool) → RawCell → Bool
has_role test c = has_role_by test (kind_of c.kind)

abbrev pub is_combinational : Role → Bool
is_combinational Combinational = true
is_combinational PlainRegister = false
is_combinational ResetRegister = false
is_combinational MemoryBlock = false
is_combinational CarriedOver = false

-- a register with asynchronous reset
abbrev pub is_reset_register : Role → Bool
is_reset_register ResetRegister = true
is_reset_register PlainRegister = false
is_reset_register MemoryBlock = false
is_reset_register Combinational = false
is_reset_register CarriedOver = false

-- a memory with a write port
abbrev pub has_flag : RawCell → Bool
has_flag c = has_role is_memory c && nat_lt 0 (number_or_0 c WrPorts)
