-- What a core keeps at each moment.
use Rattle.std.specs.Prelude.{ℕ, ◌+◌, ◌≡◌, ◌≤◌, ◌⊎◌, true, false, List, length, Option, Some, None}
use Rattle.cif_seq.specs.Cases.{CaseOf}
use Rattle.cif_pieces.specs.Pieces.{PieceOf, piece_of}
use Rattle.cif_pieces.specs.Plans.{PlanOf, IsCounted, IsPlanOf}
use Rattle.cif_pieces.specs.Filled.{place}
use Rattle.cif_core.specs.Frames.{ShelfOf, kept_frames}
use Rattle.cif_core.specs.Machine.{State, floor, mark_at, deposited, IsOpen, IsIdle}
use Rattle.cif_core.specs.declared.mark.Mark.{Mark}
use Rattle.cif_core.specs.declared.mark.Mark.TheVariants.{Free, Claimed, Deposited}

-- ---- of the state alone: for a case, so many parts, a window and so many sessions
pub record IsKept (c : CaseOf) (n w q : ℕ) (s : State) : Type 0 where
  pub sessions : length s.wants ≡ q
  pub parts : length s.marks ≡ n
  pub within : s.done ≤ c.stimulus.cycles
  pub window : s.done ≤ floor s + w
  -- where a part isn't free or the cycle is under assembly, there is a cycle to open and the window has room
  pub opened : IsIdle s ⊎ IsOpen c w s
  pub whole : s.assembling ≡ true → deposited s ≡ n

-- ---- of the frames and pieces beside it

-- what the slot of a part with this mark holds
abbrev pub held : CaseOf → ℕ → ℕ → ℕ → Mark → Option PieceOf
held c k n part Free = None
held c k n part Claimed = None
held c k n part Deposited = Some (piece_of c k part n)

-- the slots are away, or hold a piece for each part that is deposited
abbrev pub HoldsSlots : CaseOf → ℕ → State → Option (List (Option PieceOf)) → Type 0
HoldsSlots c n s None = s.assembling ≡ true
HoldsSlots c n s (Some slots) = (s.assembling ≡ false) × (length slots ≡ n) × ((part : ℕ) → place slots part ≡ held c s.done n part (mark_at s.marks part))

-- the state keeps its facts, the shelf has the frames that are kept and room for one more than the window, and the slots hold
-- what was deposited
pub record Holds (c : CaseOf) (n w q : ℕ) (s : State) (shelf : ShelfOf) (slots : Option (List (Option PieceOf))) : Type 0 where
  pub kept : IsKept c n w q s
  pub frames : shelf.frames ≡ kept_frames c s
  pub room : w + 1 ≤ shelf.room
  pub pieces : HoldsSlots c n s slots

-- ---- of what a core was given

-- a run's name has this case and this plan, and the sizes are within their limits
pub record IsGiven (c : CaseOf) (p : PlanOf) (w q : ℕ) (case : CaseOf) (plan : PlanOf) (window : ℕ) : Type 0 where
  pub same_case : case ≡ c
  pub same_plan : plan ≡ p
  pub same_window : window ≡ w
  pub planned : IsPlanOf c p
  pub counted : IsCounted p
  pub least_window : 2 ≤ w
  pub largest_window : w ≤ 64
  pub few_sessions : q ≤ 16
  pub few_cycles : c.stimulus.cycles ≤ 1000000
