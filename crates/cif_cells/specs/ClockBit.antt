-- The clock of an accepted module.
use Rattle.std.specs.Prelude.{ℕ, nat_lt, Bool, true, false, List, [], ◌∷◌, filter, Option, Some, None}
use Rattle.cif_defs.specs.Kinds.{role_of}
use Rattle.cif_defs.specs.Table.{kind_of}
use Rattle.cif_defs.specs.RawModule.{clock_bits, net_numbers}
use Rattle.cif_defs.specs.Accepted.{place_of}
use Rattle.cif_defs.specs.declared.kinds.Kind.{Kind}
use Rattle.cif_defs.specs.declared.kinds.Role.{Role}
use Rattle.cif_defs.specs.declared.kinds.Role.TheVariants.{Combinational, PlainRegister, ResetRegister, MemoryBlock, CarriedOver}
use Rattle.cif_defs.specs.declared.kinds.Param.TheVariants.{WrPorts}
use Rattle.cif_defs.specs.declared.raw_module.RawBit.{RawBit}
use Rattle.cif_defs.specs.declared.raw_module.RawBit.TheVariants.{Net}
use Rattle.cif_defs.specs.declared.raw_module.RawCell.{RawCell}
use Rattle.cif_defs.specs.declared.raw_module.Raw.{Raw}
use Rattle.cif_checks.specs.Checks.{number_or_0}

-- a cell with a clock: a register, or a memory with a write port
abbrev pub is_clocked_as : RawCell → Role → Bool
is_clocked_as c PlainRegister = true
is_clocked_as c ResetRegister = true
is_clocked_as c MemoryBlock = nat_lt 0 (number_or_0 c WrPorts)
is_clocked_as c Combinational = false
is_clocked_as c CarriedOver = false

abbrev pub is_clocked_by : RawCell → Option Kind → Bool
is_clocked_by c None = false
is_clocked_by c (Some k) = is_clocked_as c (role_of k)

abbrev pub is_clocked : RawCell → Bool
is_clocked c = is_clocked_by c (kind_of c.kind)

-- the net bit that stands first among some bits, where it is one of the net numbers ns, which rise
abbrev pub first_place : List ℕ → List RawBit → ℕ
first_place ns (Net x ∷ bs) = place_of ns x
first_place ns _ = 0

-- the net bit of the clock of the first of some clocked cells
abbrev pub clock_among : List ℕ → List RawCell → Option ℕ
clock_among ns [] = None
clock_among ns (c ∷ cs) = Some (first_place ns (clock_bits c))

-- the net bit of the clock: that of the first cell with a clock; none where no cell has one
unfoldable pub clock_of : Raw → Option ℕ
clock_of raw = clock_among (net_numbers raw) (filter is_clocked raw.cells)
