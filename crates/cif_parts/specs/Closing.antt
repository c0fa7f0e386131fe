-- Marks on the way to those of the cells that a part evaluates.
use Rattle.std.specs.Prelude.{ℕ, ◌<◌, ◌≤◌, ◌≡◌, Bool, true, List, length, get_or}
use Rattle.cif_defs.specs.Loop.{Drives}
use Rattle.cif_defs.specs.Netlist.{Netlist}
use Rattle.cif_defs.specs.Words.{bit}
use Rattle.cif_pieces.specs.Parts.{DrivesOperand, Evaluates, OwnsCell}

-- what the part owns, and what drives an operand of that, is marked, and only what it evaluates; and so is what drives a marked
-- cell that stands in the order from a place on
pub record IsClosed (n : Netlist) (order : List ℕ) (parts part : ℕ) (from : ℕ) (marks : List Bool) : Type 0 where
  pub as_many : length marks ≡ length n.cells
  pub owned : (c : ℕ) → OwnsCell n parts part c → bit marks c ≡ true
  pub fed : (c d : ℕ) → OwnsCell n parts part d → DrivesOperand n c d → bit marks c ≡ true
  pub only : (c : ℕ) → bit marks c ≡ true → Evaluates n parts part c
  pub closed : (j c : ℕ) → from ≤ j → j < length order → bit marks (get_or order j 0) ≡ true → Drives n c (get_or order j 0) → bit marks c ≡ true
