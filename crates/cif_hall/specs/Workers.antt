-- What workers are told, and what they count.
use Rattle.std.specs.Prelude.{ℕ, ◌+◌, ◌≡◌}
use Rattle.cif_seq.specs.Cases.{CaseOf}
use Rattle.cif_core.specs.declared.reply.Claim.{Claim}
use Rattle.cif_core.specs.declared.reply.Claim.TheVariants.{Piece as Part, Assemble, Finished, Wait}
use Rattle.cif_core.specs.Replies.{Claims}
use Rattle.cif_kept.specs.Kept.{KeptOf}
use Rattle.cif_hall.specs.declared.told.Asked.{Asked}
use Rattle.cif_hall.specs.declared.told.Asked.TheVariants.{Work, Blocked, Ended}
use Rattle.cif_hall.specs.declared.told.Turn.{Turn}
use Rattle.cif_hall.specs.declared.told.Turn.TheVariants.{Deposited}

-- a worker: its number, and how many of its pieces were taken
pub record WorkerOf : Type 0 where
  pub number : ℕ
  pub accepted : ℕ

-- none of its pieces was taken yet
abbrev pub new_worker : ℕ → WorkerOf
new_worker i = record { number = i; accepted = 0 }

-- a worker, one more of whose pieces was taken
abbrev pub credited : WorkerOf → WorkerOf
credited w = record w { accepted = w.accepted + 1 }

-- a worker after a turn
abbrev pub turned : Turn → WorkerOf → WorkerOf
turned Deposited w = credited w
turned _ w = w

-- a claim that is something to do
abbrev pub IsWork : Claim → Type 0
IsWork (Part piece) = Unit {0}
IsWork (Assemble slots) = Unit {0}
IsWork Finished = ⊥
IsWork Wait = ⊥

-- what a worker is told, for a case, a number of parts and a window: what the core answers to its claim
abbrev pub Asks : CaseOf → ℕ → ℕ → KeptOf → Asked → KeptOf → Type 0
Asks c n w k (Work claim) t = IsWork claim × Claims c n w k.core claim t.core × (t.mark ≡ k.mark)
Asks c n w k (Blocked mark) t = Claims c n w k.core Wait t.core × (mark ≡ k.mark) × (t ≡ k)
Asks c n w k Ended t = Claims c n w k.core Finished t.core × (t ≡ k)
