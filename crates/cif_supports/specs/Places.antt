-- Places of a netlist that hold a bit, and whether they are tainted in a run.
use Rattle.std.specs.Prelude.{ℕ, ◌+◌, ◌-◌, ◌*◌, nat_lt, nat_le, Bool, false, ◌&&◌, get_or, Option, Some, None, []}
use Rattle.cif_defs.specs.Words.{Word, bit}
use Rattle.cif_defs.specs.Kinds.{is_register, is_memory}
use Rattle.cif_defs.specs.Cells.{width, shape_of}
use Rattle.cif_defs.specs.Memory.{MemoryShape}
use Rattle.cif_defs.specs.Netlist.{Netlist, no_wire, cell_at, role_at, driver_of, output_at}
use Rattle.cif_defs.specs.Stimulus.{Stimulus}
use Rattle.cif_defs.specs.TaintRun.{src_taint, taint, taint_state}
use Rattle.cif_defs.specs.declared.nets.Src.{Src}
use Rattle.cif_defs.specs.declared.nets.Src.TheVariants.{Bit, Zero, One}
use Rattle.cif_defs.specs.declared.nets.Driver.{Driver}
use Rattle.cif_defs.specs.declared.nets.Driver.TheVariants.{Output, Register, Read, Clock}
use Rattle.cif_defs.specs.declared.nets.Driver.TheVariants.{Input as ByInput}
use Rattle.cif_supports.specs.declared.places.Place.{Place}
use Rattle.cif_supports.specs.declared.places.Place.TheVariants.{Input, State, Word as WordBit, Flag, Out}

-- ---- the place that drives a net bit

-- the clock holds no place
abbrev pub driving_place : Netlist → Driver → Option Place
driving_place n (ByInput p i) = Some (Input p i)
driving_place n (Output c p i) = Some (Out c p i)
driving_place n (Register c i) = Some (Out c 0 i)
driving_place n (Read c r i) = Some (Out c 0 (r * width (cell_at n c) + i))
driving_place n Clock = None

-- the place that an operand bit reads; a constant reads none
abbrev pub place_read : Netlist → Src → Option Place
place_read n (Bit b) = driving_place n (driver_of n b)
place_read n Zero = None
place_read n One = None

-- ---- taint

-- bit i of the word at an address lies in a memory
abbrev pub holds_bit : MemoryShape → ℕ → ℕ → Bool
holds_bit m address i = nat_le m.offset address && nat_lt (address - m.offset) m.size && nat_lt i m.width

-- the memory bit that it is
abbrev pub memory_place : MemoryShape → ℕ → ℕ → ℕ
memory_place m address i = (address - m.offset) * m.width + i

-- an output bit that is not connected is untainted
abbrev pub net_taint : (ℕ → Bool) → Option ℕ → Bool
net_taint t None = false
net_taint t (Some b) = t b

abbrev pub stored_taint : Netlist → Stimulus → ℕ → ℕ → Word
stored_taint n s k c = get_or (taint_state n s k).stored c []

-- whether a place is tainted at cycle k, where a stored bit of a memory has its stored taint alone, without the flag; what
-- is no place of the netlist is not
unfoldable pub is_tainted : Netlist → Stimulus → ℕ → Place → Bool
is_tainted n s k (Input p i) = src_taint (taint n s k) (get_or (get_or n.inputs p no_wire).bits i Zero)
is_tainted n s k (State c i) = is_register (role_at n c) && bit (stored_taint n s k c) i
is_tainted n s k (WordBit c address i) =
    is_memory (role_at n c) && holds_bit (shape_of (cell_at n c)) address i && bit (stored_taint n s k c) (memory_place (shape_of (cell_at n c)) address i)
is_tainted n s k (Flag c) = is_memory (role_at n c) && get_or (taint_state n s k).flags c false
is_tainted n s k (Out c p i) = net_taint (taint n s k) (output_at (cell_at n c) p i)
