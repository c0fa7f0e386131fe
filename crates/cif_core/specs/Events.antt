-- Events of the core, one after another.
use Rattle.std.specs.Prelude.{ℕ, ◌≡◌, ◌<◌, ◌≤◌, List, [], ◌∷◌, MatchOption}
use Rattle.cif_seq.specs.Cases.{CaseOf, FrameOf}
use Rattle.cif_pieces.specs.Pieces.{PieceOf}
use Rattle.cif_core.specs.declared.reply.Claim.{Claim}
use Rattle.cif_core.specs.declared.reply.Deposit.{Deposit}
use Rattle.cif_core.specs.declared.reply.Publish.{Publish}
use Rattle.cif_core.specs.declared.reply.Look.{Look}
use Rattle.cif_core.specs.declared.reply.Newest.{Newest}
use Rattle.cif_core.specs.Machine.{State, want_at, wanted, left, broken}
use Rattle.cif_core.specs.Replies.{Claims, Deposits, Publishes, Looks, Shows}

-- a call of the core, with what it was given and what it replied
pub data Event : Type 0 where
  claim : Claim → Event
  deposit : PieceOf → Deposit → Event
  publish : FrameOf → Publish → Event
  -- a session and a cycle
  want : ℕ → ℕ → Event
  look : ℕ → ℕ → Look → Event
  newest : Newest → Event
  leave : ℕ → Event
  fail : Event
  -- a claim, look or newest that found no memory
  starve : Event

-- a session may want a cycle: it is there, and wants no later one
abbrev pub MayWant : CaseOf → State → ℕ → ℕ → Type 0
MayWant c s session cycle = MatchOption (want_at s.wants session) ⊥ (λ earlier. earlier ≤ cycle) × (cycle < c.stimulus.cycles)

-- an event that meets its conditions takes state s to state t
abbrev pub Happens : CaseOf → ℕ → ℕ → ℕ → State → Event → State → Type 0
Happens c n w q s (claim reply) t = Claims c n w s reply t
Happens c n w q s (deposit p reply) t = (p.case ≡ c) × (p.parts ≡ n) × Deposits s p reply t
Happens c n w q s (publish f reply) t = (f.case ≡ c) × Publishes s f reply t
Happens c n w q s (want session cycle) t = (session < q) × MayWant c s session cycle × (t ≡ wanted s session cycle)
Happens c n w q s (look session cycle reply) t = (session < q) × Looks c s cycle reply × (t ≡ s)
Happens c n w q s (newest reply) t = Shows c s reply × (t ≡ s)
Happens c n w q s (leave session) t = (session < q) × (t ≡ left s session)
Happens c n w q s fail t = t ≡ broken s
Happens c n w q s starve t = t ≡ s

-- events, each of which happens in the state that the one before left
abbrev pub Happen : CaseOf → ℕ → ℕ → ℕ → State → List Event → State → Type 0
Happen c n w q s [] t = s ≡ t
Happen c n w q s (e ∷ events) t = (between : State) × Happens c n w q s e between × Happen c n w q between events t

-- an event is no want and no leaving of a session
abbrev pub IsNotBy : ℕ → Event → Type 0
IsNotBy session (want i cycle) = session ≡ i → ⊥
IsNotBy session (leave i) = session ≡ i → ⊥
IsNotBy session _ = Unit {0}

abbrev pub AreNotBy : ℕ → List Event → Type 0
AreNotBy session [] = Unit {0}
AreNotBy session (e ∷ events) = IsNotBy session e × AreNotBy session events
