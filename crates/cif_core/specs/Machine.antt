-- The core machine: numbers and marks alone.
use Rattle.std.specs.Prelude.{ℕ, ◌+◌, ◌*◌, ◌≡◌, ◌<◌, ◌≤◌, ◌⊎◌, min, Bool, true, false, List, [], ◌∷◌, Option, Some, None, get_or, slice_set, position, count_by, replicate}
use Rattle.cif_seq.specs.Cases.{CaseOf}
use Rattle.cif_core.specs.declared.mark.Mark.{Mark}
use Rattle.cif_core.specs.declared.mark.Mark.TheVariants.{Free, Claimed, Deposited}

-- how many cycles are done; what each session wants, nothing where it has left; whether a failure is kept; and for the open
-- cycle, which is the one after those that are done, the mark of each part and whether it is under assembly
pub record State : Type 0 where
  pub done : ℕ
  pub wants : List (Option ℕ)
  pub failed : Bool
  pub marks : List Mark
  pub assembling : Bool

-- at the opening every session is there and wants cycle 0, and every part is free
abbrev pub fresh : ℕ → ℕ → State
fresh parts sessions = record { done = 0; wants = replicate sessions (Some 0); failed = false; marks = replicate parts Free; assembling = false }

-- ---- what is asked of a state

abbrev pub want_at : List (Option ℕ) → ℕ → Option ℕ
want_at wants session = get_or wants session None

abbrev pub mark_at : List Mark → ℕ → Mark
mark_at marks part = get_or marks part Free

abbrev pub lower : ℕ → Option ℕ → ℕ
lower low None = low
lower low (Some want) = min low want

-- the least of a number and of the wants that are there
abbrev pub floor_of : ℕ → List (Option ℕ) → ℕ
floor_of low [] = low
floor_of low (want ∷ wants) = floor_of (lower low want) wants

-- the least want of the sessions that are there, or what is done where that is smaller or none is there
abbrev pub floor : State → ℕ
floor s = floor_of s.done s.wants

abbrev pub is_free : Mark → Bool
is_free Free = true
is_free Claimed = false
is_free Deposited = false

abbrev pub is_deposited : Mark → Bool
is_deposited Free = false
is_deposited Claimed = false
is_deposited Deposited = true

-- the least part that is free
abbrev pub free_part : State → Option ℕ
free_part s = position is_free s.marks

-- how many parts of the open cycle are deposited
abbrev pub deposited : State → ℕ
deposited s = count_by is_deposited s.marks

-- how many pieces were taken
abbrev pub taken : ℕ → State → ℕ
taken parts s = s.done * parts + deposited s

-- every cycle is done, or a failure is kept
abbrev pub IsOver : CaseOf → State → Type 0
IsOver c s = (s.done ≡ c.stimulus.cycles) ⊎ (s.failed ≡ true)

-- as many cycles are done from the floor on as the window has
abbrev pub IsFull : ℕ → State → Type 0
IsFull window s = floor s + window ≤ s.done

-- there is a cycle to open, and the window has room for it
abbrev pub IsOpen : CaseOf → ℕ → State → Type 0
IsOpen c window s = (s.done < c.stimulus.cycles) × (s.done < floor s + window)

-- every part of the open cycle is deposited, and no one assembles it
abbrev pub IsDue : ℕ → State → Type 0
IsDue parts s = (deposited s ≡ parts) × (s.assembling ≡ false)

-- no part is claimed or deposited, and nothing is under assembly
abbrev pub IsIdle : State → Type 0
IsIdle s = ((part : ℕ) → mark_at s.marks part ≡ Free) × (s.assembling ≡ false)

-- ---- what events leave

abbrev pub claimed : State → ℕ → State
claimed s part = record s { marks = slice_set s.marks part Claimed }

abbrev pub assembled : State → State
assembled s = record s { assembling = true }

abbrev pub given : State → ℕ → State
given s part = record s { marks = slice_set s.marks part Deposited }

abbrev pub freed : List Mark → List Mark
freed [] = []
freed (mark ∷ marks) = Free ∷ freed marks

abbrev pub published : State → State
published s = record s { done = s.done + 1; marks = freed s.marks; assembling = false }

abbrev pub wanted : State → ℕ → ℕ → State
wanted s session cycle = record s { wants = slice_set s.wants session (Some cycle) }

abbrev pub left : State → ℕ → State
left s session = record s { wants = slice_set s.wants session None }

abbrev pub broken : State → State
broken s = record s { failed = true }
