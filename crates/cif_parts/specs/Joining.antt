-- Tables into which the pieces of several parts are taken over.
use Rattle.std.specs.Prelude.{ℕ, ◌<◌, ◌≤◌, ◌≡◌, ◌⊎◌, Bool, true, List, [], length, get_or, slice_set, Option, Some, None}
use Rattle.cif_defs.specs.Words.{bit}
use Rattle.cif_defs.specs.Cells.{Cell}
use Rattle.cif_defs.specs.Evaluation.{is_of_cell}
use Rattle.cif_defs.specs.Netlist.{driver_of}
use Rattle.cif_seq.specs.Cases.{CaseOf, net_of}
use Rattle.cif_pieces.specs.Parts.{OwnsCell}
use Rattle.cif_pieces.specs.Pieces.{HaveEachPlace, HoldsPiece, IsRight, StoresRight, piece_of}
use Rattle.cif_pieces.specs.declared.piece.OwnedBits.{OwnedBits}

-- ---- bits that are copied

-- bits at some places are copied from one table to another, and the others stay
pub record Copies (from old new : List Bool) (Fits : ℕ → Type 0) : Type 0 where
  pub as_many : length new ≡ length old
  pub copied : (b : ℕ) → Fits b → bit new b ≡ bit from b
  pub each : (b : ℕ) → (Fits b × (bit new b ≡ bit from b)) ⊎ (bit new b ≡ bit old b)

-- net bit b is among the first bits of an output, so many
pub record IsTargetBefore (targets : List (Option ℕ)) (end b : ℕ) : Type 0 where
  pub place : ℕ
  pub before : place < end
  pub is : get_or targets place None ≡ Some b

-- it is a bit of one of the first outputs, so many
pub record IsOutputBefore (outputs : List (List (Option ℕ))) (end b : ℕ) : Type 0 where
  pub port : ℕ
  pub before : port < end
  pub place : ℕ
  pub is : get_or (get_or outputs port []) place None ≡ Some b

-- ---- cells that are taken over

-- what a cell shows and stores is taken from some tables to others; its words are exchanged
pub record TakesCell (c : Cell) (number : ℕ) (from left old new : OwnedBits) : Type 0 where
  pub values : Copies from.values.items old.values.items new.values.items (IsOutputBefore c.outputs (length c.outputs))
  pub taints : Copies from.taints.items old.taints.items new.taints.items (IsOutputBefore c.outputs (length c.outputs))
  pub word : new.stored.values.items ≡ slice_set old.stored.values.items number (get_or from.stored.values.items number [])
  pub word_taint : new.stored.taints.items ≡ slice_set old.stored.taints.items number (get_or from.stored.taints.items number [])
  pub flag : new.stored.flags.items ≡ slice_set old.stored.flags.items number (bit from.stored.flags.items number)
  pub due : new.due.items ≡ slice_set old.due.items number (bit from.due.items number)
  pub inputs : new.inputs ≡ old.inputs
  pub left_values : left.values.items ≡ from.values.items
  pub left_taints : left.taints.items ≡ from.taints.items
  pub left_word : left.stored.values.items ≡ slice_set from.stored.values.items number (get_or old.stored.values.items number [])
  pub left_word_taint : left.stored.taints.items ≡ slice_set from.stored.taints.items number (get_or old.stored.taints.items number [])
  pub left_flags : left.stored.flags.items ≡ from.stored.flags.items
  pub left_due : left.due.items ≡ from.due.items

-- tables hold the pieces of the first parts, so many
pub record HoldPieces (c : CaseOf) (k parts end : ℕ) (bits : OwnedBits) : Type 0 where
  pub places : HaveEachPlace (net_of c) bits
  pub each : (part : ℕ) → part < end → HoldsPiece (piece_of c k part parts) bits

-- while a part's cells are taken over, so many of a list
pub record IsTaking (c : CaseOf) (k parts part : ℕ) (owned : List ℕ) (end : ℕ) (from joined : OwnedBits) : Type 0 where
  pub places : HaveEachPlace (net_of c) from
  pub before : HoldPieces c k parts part joined
  pub nets : (x b : ℕ) → OwnsCell (net_of c) parts part x → is_of_cell x (driver_of (net_of c) b) ≡ true → IsRight (net_of c) c.stimulus k from b
  pub left : (j : ℕ) → end ≤ j → j < length owned → StoresRight (net_of c) c.stimulus k from (get_or owned j 0)
  pub shown : (j b : ℕ) → j < end → is_of_cell (get_or owned j 0) (driver_of (net_of c) b) ≡ true → IsRight (net_of c) c.stimulus k joined b
  pub taken : (j : ℕ) → j < end → StoresRight (net_of c) c.stimulus k joined (get_or owned j 0)
