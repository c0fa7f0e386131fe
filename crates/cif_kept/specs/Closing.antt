-- The end of a run, once all its work is in one hand.
use Rattle.std.specs.Prelude.{ℕ, suc, ◌+◌, ◌-◌, ◌*◌, ◌≡◌, Bool, true, false, None}
use Rattle.cif_seq.specs.Cases.{CaseOf}
use Rattle.cif_core.specs.Machine.{State, IsOver, mark_at, taken, want_at}
use Rattle.cif_core.specs.declared.mark.Mark.TheVariants.{Claimed}

-- every session has left
abbrev pub IsDeserted : State → Type 0
IsDeserted s = (session : ℕ) → want_at s.wants session ≡ None

-- no one else is at work: no session is there, no part is claimed, and nothing is under assembly
pub record IsAlone (s : State) : Type 0 where
  pub deserted : IsDeserted s
  pub unclaimed : (part : ℕ) → mark_at s.marks part ≡ Claimed → ⊥
  pub resting : s.assembling ≡ false

-- unless the run is over, no one else is at work
abbrev pub IsInHand : CaseOf → State → Type 0
IsInHand c s = (IsOver c s → ⊥) → IsAlone s

abbrev pub left_of : Bool → ℕ → ℕ → ℕ
left_of true all gone = 0
left_of false all gone = suc all - gone

-- how many pieces and frames are still to be taken, and one more; nothing after a failure
abbrev pub to_do : CaseOf → ℕ → State → ℕ
to_do c n s = left_of s.failed (c.stimulus.cycles * n + c.stimulus.cycles) (taken n s + s.done)
