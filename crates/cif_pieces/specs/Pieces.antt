-- Pieces: what one part owns of a frame.
use Rattle.std.specs.Prelude.{ℕ, ◌<◌, ◌≤◌, ◌≡◌, false, [], length, get_or}
use Rattle.cif_defs.specs.Words.{bit}
use Rattle.cif_defs.specs.Netlist.{Netlist, cell_at, driver_of, role_at}
use Rattle.cif_defs.specs.Run.{state, stored_by, value}
use Rattle.cif_defs.specs.Stimulus.{Stimulus}
use Rattle.cif_defs.specs.TaintRun.{flag_by, taint, taint_state, taint_stored_by}
use Rattle.cif_defs.specs.declared.nets.Driver.TheVariants.{Clock}
use Rattle.cif_seq.specs.Cases.{CaseOf, net_of}
use Rattle.cif_seq.specs.Inputs.{StandsAt}
use Rattle.cif_pieces.specs.Parts.{OwnsCell, OwnsNet}
use Rattle.cif_pieces.specs.declared.piece.OwnedBits.{OwnedBits}

-- a piece is known by its case, its cycle, its part and the number of parts
pub record PieceOf : Type 0 where
  pub case : CaseOf
  pub cycle : ℕ
  pub part : ℕ
  pub parts : ℕ

abbrev pub piece_of : CaseOf → ℕ → ℕ → ℕ → PieceOf
piece_of c k part parts = record { case = c; cycle = k; part = part; parts = parts }

-- there is such a piece: its cycle is one of the case, its part one of 1 to 64
pub record IsPiece (p : PieceOf) : Type 0 where
  pub cycle : p.cycle < p.case.stimulus.cycles
  pub part : p.part < p.parts
  pub few : p.parts ≤ 64

-- what a cell stores next, by the values and the taints of a cycle, is what it stores in that cycle
pub record RestsIn (n : Netlist) (s : Stimulus) (k c : ℕ) : Type 0 where
  pub word : stored_by (role_at n c) (cell_at n c) (value n s k) (get_or (state n s k) c []) ≡ get_or (state n s k) c []
  pub word_taint : taint_stored_by (role_at n c) (cell_at n c) (value n s k) (taint n s k) (get_or (state n s k) c []) (get_or (taint_state n s k).stored c []) ≡ get_or (taint_state n s k).stored c []
  pub flag : flag_by (role_at n c) (cell_at n c) (value n s k) (taint n s k) (get_or (taint_state n s k).flags c false) ≡ get_or (taint_state n s k).flags c false

-- a net bit has the value and the taint of a cycle
pub record IsRight (n : Netlist) (s : Stimulus) (k : ℕ) (bits : OwnedBits) (b : ℕ) : Type 0 where
  pub value : bit bits.values.items b ≡ value n s k b
  pub taint : bit bits.taints.items b ≡ taint n s k b

-- a cell stores what it does in a cycle, and rests where it isn't due
pub record StoresRight (n : Netlist) (s : Stimulus) (k : ℕ) (bits : OwnedBits) (c : ℕ) : Type 0 where
  pub value : get_or bits.stored.values.items c [] ≡ get_or (state n s k) c []
  pub taint : get_or bits.stored.taints.items c [] ≡ get_or (taint_state n s k).stored c []
  pub flag : get_or bits.stored.flags.items c false ≡ get_or (taint_state n s k).flags c false
  pub resting : bit bits.due.items c ≡ false → RestsIn n s k c

-- tables have a place for each net bit, and one for each cell
pub record HaveEachPlace (n : Netlist) (bits : OwnedBits) : Type 0 where
  pub values : length bits.values.items ≡ length n.drivers
  pub taints : length bits.taints.items ≡ length n.drivers
  pub words : length bits.stored.values.items ≡ length n.cells
  pub word_taints : length bits.stored.taints.items ≡ length n.cells
  pub flags : length bits.stored.flags.items ≡ length n.cells
  pub due : length bits.due.items ≡ length n.cells

-- they hold a piece: what the frame of the cycle has where the part owns it, and at the clock, which no part owns; and the
-- cursor over the stimulus stands at the cycle
pub record HoldsPiece (p : PieceOf) (bits : OwnedBits) : Type 0 where
  pub places : HaveEachPlace (net_of p.case) bits
  pub nets : (b : ℕ) → OwnsNet (net_of p.case) p.parts p.part b → IsRight (net_of p.case) p.case.stimulus p.cycle bits b
  pub clock : (b : ℕ) → driver_of (net_of p.case) b ≡ Clock → IsRight (net_of p.case) p.case.stimulus p.cycle bits b
  pub cells : (c : ℕ) → OwnsCell (net_of p.case) p.parts p.part c → StoresRight (net_of p.case) p.case.stimulus p.cycle bits c
  pub at : StandsAt (net_of p.case) p.case.stimulus p.cycle bits.inputs
