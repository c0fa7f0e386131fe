-- Marks of cells.
use Rattle.std.specs.Prelude.{ℕ, ◌≡◌, ◌⊎◌, Bool, true, List, length}
use Rattle.cif_defs.specs.Words.{bit}
use Rattle.cif_defs.specs.Netlist.{Netlist, role_at}
use Rattle.cif_seq.specs.Cases.{CaseOf, net_of}
use Rattle.cif_pieces.specs.Parts.{Evaluates, Needs, OwnsCell, stores}

-- cells that fit are marked, besides those that were marked before, and no others
pub record Adds (old new : List Bool) (Fits : ℕ → Type 0) : Type 0 where
  pub as_many : length new ≡ length old
  pub kept : (c : ℕ) → bit old c ≡ true → bit new c ≡ true
  pub added : (c : ℕ) → Fits c → bit new c ≡ true
  pub only : (c : ℕ) → bit new c ≡ true → (bit old c ≡ true) ⊎ Fits c

-- of so many cells those that fit are marked, and no others
pub record AreMarks (marks : List Bool) (cells : ℕ) (Fits : ℕ → Type 0) : Type 0 where
  pub as_many : length marks ≡ cells
  pub each : (c : ℕ) → Fits c → bit marks c ≡ true
  pub only : (c : ℕ) → bit marks c ≡ true → Fits c

-- a cell is marked, and stores something
pub record IsStoring (n : Netlist) (marks : List Bool) (c : ℕ) : Type 0 where
  pub marked : bit marks c ≡ true
  pub storing : stores (role_at n c) ≡ true

-- the marks of a part, among so many: the cells that it owns, those that it evaluates, and those of which it needs what they store
pub record ArePartMarks (c : CaseOf) (parts part : ℕ) (own evaluate need : List Bool) : Type 0 where
  pub owned : AreMarks own (length (net_of c).cells) (OwnsCell (net_of c) parts part)
  pub evaluated : AreMarks evaluate (length (net_of c).cells) (Evaluates (net_of c) parts part)
  pub needed : AreMarks need (length (net_of c).cells) (Needs (net_of c) parts part)
