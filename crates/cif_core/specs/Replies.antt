-- What the calls of the core reply, and what they leave.
use Rattle.std.specs.Prelude.{ℕ, ◌+◌, ◌-◌, ◌≡◌, ◌<◌, ◌≤◌, ◌⊎◌, true, false, length, Some, None, MatchOption, IsSome}
use Rattle.cif_seq.specs.Cases.{CaseOf, FrameOf, frame_of}
use Rattle.cif_pieces.specs.Pieces.{PieceOf}
use Rattle.cif_pieces.specs.Filled.{AllHere}
use Rattle.cif_core.specs.declared.mark.Mark.TheVariants.{Claimed}
use Rattle.cif_core.specs.declared.reply.Claim.{Claim}
use Rattle.cif_core.specs.declared.reply.Claim.TheVariants.{Piece as Part, Assemble, Finished, Wait}
use Rattle.cif_core.specs.declared.reply.Deposit.{Deposit}
use Rattle.cif_core.specs.declared.reply.Deposit.TheVariants.{Taken, Stranger}
use Rattle.cif_core.specs.declared.reply.Publish.{Publish}
use Rattle.cif_core.specs.declared.reply.Publish.TheVariants.{Published, Stranger as Unknown}
use Rattle.cif_core.specs.declared.reply.Look.{Look}
use Rattle.cif_core.specs.declared.reply.Look.TheVariants.{Found, Gone, NotYet, Failed}
use Rattle.cif_core.specs.declared.reply.Newest.{Newest}
use Rattle.cif_core.specs.declared.reply.Newest.TheVariants.{Found as Last, NoneYet, Failed as Broken}
use Rattle.cif_core.specs.Machine.{State, floor, free_part, claimed, assembled, given, published, IsOver, IsFull, IsDue, mark_at}

-- ---- claim, for a case, a number of parts and a window

-- a part is to be handed out
abbrev pub HasPart : CaseOf → ℕ → State → Type 0
HasPart c window s = (IsOver c s → ⊥) × (IsFull window s → ⊥) × IsSome (free_part s)

abbrev pub Claims : CaseOf → ℕ → ℕ → State → Claim → State → Type 0
Claims c parts window s Finished t = IsOver c s × (t ≡ s)
Claims c parts window s Wait t = (IsOver c s → ⊥) × (IsFull window s ⊎ (free_part s ≡ None)) × (IsDue parts s → ⊥) × (t ≡ s)
Claims c parts window s (Part p) t =
    (IsOver c s → ⊥) × (IsFull window s → ⊥) × (free_part s ≡ Some p.part) × (p.part < parts)
    × (p.cycle ≡ s.done) × (s.done < c.stimulus.cycles)
    × MatchOption p.prior (s.done ≡ 0) (λ f. (0 < s.done) × (f.value ≡ frame_of c (s.done - 1)))
    × (t ≡ claimed s p.part)
Claims c parts window s (Assemble slots) t =
    (IsOver c s → ⊥) × IsDue parts s × (length slots ≡ parts) × AllHere c s.done parts slots × (t ≡ assembled s)

-- ---- deposit

-- that part of that cycle is claimed, and no failure is kept
abbrev pub Expects : State → PieceOf → Type 0
Expects s p = (p.cycle ≡ s.done) × (mark_at s.marks p.part ≡ Claimed) × (s.failed ≡ false)

abbrev pub Deposits : State → PieceOf → Deposit → State → Type 0
Deposits s p Taken t = Expects s p × (t ≡ given s p.part)
Deposits s p (Stranger q) t = (Expects s p → ⊥) × (q ≡ p) × (t ≡ s)

-- how many pieces were taken after a deposit
abbrev pub Counts : Deposit → ℕ → ℕ → Type 0
Counts Taken before after = after ≡ before + 1
Counts (Stranger q) before after = after ≡ before

-- ---- publish

-- the frame's cycle is under assembly, and no failure is kept
abbrev pub Awaits : State → FrameOf → Type 0
Awaits s f = (f.cycle ≡ s.done) × (s.assembling ≡ true) × (s.failed ≡ false)

abbrev pub Publishes : State → FrameOf → Publish → State → Type 0
Publishes s f Published t = Awaits s f × (t ≡ published s)
Publishes s f (Unknown g slots) t = (Awaits s f → ⊥) × (g.value ≡ f) × (t ≡ s)

-- ---- look and newest, which leave the state as it is

abbrev pub Looks : CaseOf → State → ℕ → Look → Type 0
Looks c s cycle (Found f) = (floor s ≤ cycle) × (cycle < s.done) × (f.value ≡ frame_of c cycle)
Looks c s cycle (Gone low) = (cycle < floor s) × (low ≡ floor s)
Looks c s cycle (NotYet done) = (s.done ≤ cycle) × (s.failed ≡ false) × (done ≡ s.done)
Looks c s cycle Failed = (s.done ≤ cycle) × (s.failed ≡ true)

abbrev pub Shows : CaseOf → State → Newest → Type 0
Shows c s (Last f) = (0 < s.done) × (f.value ≡ frame_of c (s.done - 1))
Shows c s NoneYet = (s.done ≡ 0) × (s.failed ≡ false)
Shows c s Broken = (s.done ≡ 0) × (s.failed ≡ true)
