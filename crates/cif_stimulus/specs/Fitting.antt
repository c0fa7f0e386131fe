-- When the lines of a stimulus fit a netlist: what each names is there, with its address and its width, and none gives again
-- what one before it gave.
use Rattle.std.specs.Prelude.{ℕ, ◌+◌, nat_le, nat_lt, Bool, true, false, not, ◌&&◌, ◌||◌, ◌==◌, List, [], ◌∷◌, length, bytes_eq, Option, Some, None, option_and_then, is_some, if◌then◌else◌}
use Rattle.std.specs.List.{find, list_any}
use Rattle.cif_defs.specs.Accepted.{netlist_of}
use Rattle.cif_defs.specs.Cells.{Cell, number_of, width}
use Rattle.cif_defs.specs.Kinds.{role_of, is_register, is_memory}
use Rattle.cif_defs.specs.Netlist.{Netlist, driver_of}
use Rattle.cif_defs.specs.Stimulus.{Stimulus as StimulusData, StimLine as LineData, TaintedWord, reg_line, mem_line, release_line, cycle_line, set_line}
use Rattle.cif_defs.specs.declared.kinds.Param.TheVariants.{Offset, Size}
use Rattle.cif_defs.specs.declared.kinds.Role.{Role}
use Rattle.cif_defs.specs.declared.nets.Driver.{Driver}
use Rattle.cif_defs.specs.declared.nets.Driver.TheVariants.{Input, Output, Register, Read, Clock}
use Rattle.cif_defs.specs.declared.nets.Src.{Src}
use Rattle.cif_defs.specs.declared.nets.Src.TheVariants.{Bit, Zero, One}
use Rattle.cif_defs.specs.declared.nets.Wire.{Wire}
use Rattle.cif_defs.specs.declared.raw_module.Raw.{Raw}
use Rattle.cif_cells.specs.Finding.{FoundOf, a_wire, not_two_valued, missing, found_of}

-- ---- what names stand for

abbrev pub is_clock_driver : Driver → Bool
is_clock_driver Clock = true
is_clock_driver (Input p i) = false
is_clock_driver (Output c p i) = false
is_clock_driver (Register c i) = false
is_clock_driver (Read c p i) = false

abbrev pub is_clock_source : Netlist → Src → Bool
is_clock_source n (Bit b) = is_clock_driver (driver_of n b)
is_clock_source n Zero = false
is_clock_source n One = false

-- a port, where it isn't the clock
abbrev pub other_than_clock : Netlist → Option Wire → Option Wire
other_than_clock n port = option_and_then (λ (w : Wire). if list_any (is_clock_source n) w.bits then None else Some w) port

-- the input port of a name, other than the clock
unfoldable pub settable : Netlist → List ℕ → Option Wire
settable n name = other_than_clock n (find (λ (w : Wire). bytes_eq w.name name) n.inputs)

-- a cell, where it has a role of this sort
abbrev pub with_role : (Role → Bool) → Option Cell → Option Cell
with_role has_role cell = option_and_then (λ (c : Cell). if has_role (role_of c.kind) then Some c else None) cell

-- the cell of a name, where it has a role of this sort
abbrev pub cell_as : (Role → Bool) → List Cell → List ℕ → Option Cell
cell_as has_role cells name = with_role has_role (find (λ (c : Cell). bytes_eq c.name name) cells)

-- the register, and the memory, of a name
unfoldable pub register_named : Netlist → List ℕ → Option Cell
register_named n name = cell_as is_register n.cells name

unfoldable pub memory_named : Netlist → List ℕ → Option Cell
memory_named n name = cell_as is_memory n.cells name

-- ---- each line by itself

abbrev pub is_same_source : Src → Src → Bool
is_same_source (Bit b) (Bit d) = b == d
is_same_source Zero Zero = true
is_same_source One One = true
is_same_source _ _ = false

abbrev pub are_same_sources : List Src → List Src → Bool
are_same_sources [] [] = true
are_same_sources (a ∷ us) (b ∷ vs) = is_same_source a b && are_same_sources us vs
are_same_sources _ _ = false

-- a wire is found, and it has the bits that the line keeps
abbrev pub is_found_as : List Src → FoundOf → Bool
is_found_as bits (a_wire w) = are_same_sources w.bits bits
is_found_as bits not_two_valued = false
is_found_as bits missing = false

-- what a line names is there
abbrev pub has_name : Raw → LineData → Bool
has_name raw (reg_line name w) = is_some (register_named (netlist_of raw) name)
has_name raw (mem_line name address w) = is_some (memory_named (netlist_of raw) name)
has_name raw (release_line name bits) = is_found_as bits (found_of raw name)
has_name raw (cycle_line k) = true
has_name raw (set_line name w) = is_some (settable (netlist_of raw) name)

-- an address lies from OFFSET to OFFSET + SIZE - 1
abbrev pub is_address : ℕ → Option Cell → Bool
is_address address None = false
is_address address (Some c) = nat_le (number_of c Offset) address && nat_lt address (number_of c Offset + number_of c Size)

-- a memory has the address
abbrev pub has_address : Raw → LineData → Bool
has_address raw (mem_line name address w) = is_address address (memory_named (netlist_of raw) name)
has_address raw _ = true

-- a word and its taint have n bits
abbrev pub is_of_width : TaintedWord → ℕ → Bool
is_of_width w n = length w.value == n && length w.taint == n

abbrev pub is_stored_by : TaintedWord → Option Cell → Bool
is_stored_by w None = false
is_stored_by w (Some c) = is_of_width w (width c)

abbrev pub is_held_by : TaintedWord → Option Wire → Bool
is_held_by w None = false
is_held_by w (Some port) = is_of_width w (length port.bits)

-- the word of a line has the width of what the line names
abbrev pub has_width : Raw → LineData → Bool
has_width raw (reg_line name w) = is_stored_by w (register_named (netlist_of raw) name)
has_width raw (mem_line name address w) = is_stored_by w (memory_named (netlist_of raw) name)
has_width raw (release_line name bits) = true
has_width raw (cycle_line k) = true
has_width raw (set_line name w) = is_held_by w (settable (netlist_of raw) name)

-- ---- a line and those before it, of which the nearest comes first

-- whether a line is the word of a register
abbrev pub is_reg_of : List ℕ → LineData → Bool
is_reg_of name (reg_line other w) = bytes_eq other name
is_reg_of name _ = false

-- whether a line is the word of a memory at an address
abbrev pub is_mem_of : List ℕ → ℕ → LineData → Bool
is_mem_of name address (mem_line other place w) = bytes_eq other name && place == address
is_mem_of name address _ = false

-- whether a line releases a name
abbrev pub is_release_of : List ℕ → LineData → Bool
is_release_of name (release_line other bits) = bytes_eq other name
is_release_of name _ = false

-- whether one of some lines releases a name
abbrev pub is_name_released : List LineData → List ℕ → Bool
is_name_released lines name = list_any (is_release_of name) lines

-- whether a port is set in the group that lines end in
abbrev pub is_set_among : List ℕ → List LineData → Bool
is_set_among port [] = false
is_set_among port (cycle_line k ∷ before) = false
is_set_among port (set_line other w ∷ before) = bytes_eq other port || is_set_among port before
is_set_among port (reg_line name w ∷ before) = is_set_among port before
is_set_among port (mem_line name address w ∷ before) = is_set_among port before
is_set_among port (release_line name bits ∷ before) = is_set_among port before

-- whether a line gives what a line before it gave
abbrev pub is_again : LineData → List LineData → Bool
is_again (reg_line name w) before = list_any (is_reg_of name) before
is_again (mem_line name address w) before = list_any (is_mem_of name address) before
is_again (release_line name bits) before = list_any (is_release_of name) before
is_again (cycle_line k) before = false
is_again (set_line port w) before = is_set_among port before

-- ---- all lines

-- what a line names is there, with its address and its width
abbrev pub fits_alone : Raw → LineData → Bool
fits_alone raw line = has_name raw line && has_address raw line && has_width raw line

-- a line fits after those before it
abbrev pub line_fits : Raw → List LineData → LineData → Bool
line_fits raw before line = fits_alone raw line && not (is_again line before)

-- each of some lines fits after those before it
abbrev pub lines_fit : Raw → List LineData → List LineData → Bool
lines_fit raw before [] = true
lines_fit raw before (line ∷ lines) = line_fits raw before line && lines_fit raw (line ∷ before) lines

-- a stimulus fits a netlist
unfoldable pub fits_of : Raw → StimulusData → Bool
fits_of raw s = lines_fit raw [] s.lines
