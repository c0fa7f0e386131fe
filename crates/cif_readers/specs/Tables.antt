-- The table of the cells that read each net bit.
use Rattle.std.specs.Prelude.{ℕ, ◌+◌, ◌≤◌, length, get_or}
use Rattle.cif_defs.specs.Netlist.{Netlist}
use Rattle.cif_readers.specs.Reads.{Reads}
use Rattle.cif_readers.specs.Places.{IsBetween}
use Rattle.cif_readers.specs.declared.readers.Readers.{Readers}

-- where the cells of net bit b begin
abbrev pub start_of : Readers → ℕ → ℕ
start_of r b = get_or r.starts.items b 0

-- cell c stands among those of net bit b, which stand from its start up to the start of the next one
abbrev pub IsListed : Readers → ℕ → ℕ → Type 0
IsListed r b c = IsBetween r.cells.items (start_of r b) (start_of r (b + 1)) c

-- the table lists for each net bit the cells that read it, and no other cell
pub record AreReaders (n : Netlist) (r : Readers) : Type 0 where
  pub listed : (c b : ℕ) → Reads n c b → IsListed r b c
  pub only : (c b : ℕ) → IsListed r b c → Reads n c b
  pub inside : (b : ℕ) → start_of r b ≤ length r.cells.items
