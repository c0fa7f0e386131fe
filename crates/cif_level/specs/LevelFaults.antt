-- What an answer without levels says of the netlist.
use Rattle.std.specs.Prelude.{ℕ, ◌<◌, ◌≡◌, length, get_or}
use Rattle.std.specs.declared.cmp.Ordering.TheVariants.{Less}
use Rattle.std.specs.Ordering.{nat_cmp}
use Rattle.std.specs.Cmp.Lexicographic.{slice_cmp}
use Rattle.cif_defs.specs.Loop.{IsLoop}
use Rattle.cif_defs.specs.Netlist.{Netlist, cell_at}
use Rattle.cif_level.specs.declared.fault.LevelFault.{LevelFault}
use Rattle.cif_level.specs.declared.fault.LevelFault.TheVariants.{Loop, Memory}

-- a loop that is named is one; want of memory says nothing
abbrev pub IsReal : Netlist → LevelFault → Type 0
IsReal n (Loop cells) = IsLoop n cells
IsReal n Memory = Unit {0}

-- the name of the first cell stands in byte order before those of the others
abbrev pub HasLeastNameFirst : Netlist → LevelFault → Type 0
HasLeastNameFirst n (Loop cells) = (i : ℕ) → 0 < i → i < length cells → slice_cmp nat_cmp (cell_at n (get_or cells 0 0)).name (cell_at n (get_or cells i 0)).name ≡ Less
HasLeastNameFirst n Memory = Unit {0}
