-- What lies under the lock: the core, and a mark that rises with its events.
use Rattle.std.specs.Prelude.{ℕ, ◌+◌, ◌==◌, min, Bool, false, Option, Some, None, if◌then◌else◌}
use Rattle.cif_core.specs.Machine.{State, broken, given, published, wanted, want_at}
use Rattle.cif_core.specs.declared.reply.Deposit.{Deposit}
use Rattle.cif_core.specs.declared.reply.Deposit.TheVariants.{Taken, Stranger}
use Rattle.cif_core.specs.declared.reply.Publish.{Publish}
use Rattle.cif_core.specs.declared.reply.Publish.TheVariants.{Published, Stranger as Unknown}

pub record KeptOf : Type 0 where
  pub core : State
  pub mark : ℕ

-- a mark rises by one, and stays at its end
abbrev pub raised : ℕ → ℕ
raised mark = min (mark + 1) 18446744073709551615

-- ---- the mark after an answer: it rises exactly where the core changed

abbrev pub mark_deposited : Deposit → ℕ → ℕ
mark_deposited Taken mark = raised mark
mark_deposited (Stranger piece) mark = mark

abbrev pub mark_published : Publish → ℕ → ℕ
mark_published Published mark = raised mark
mark_published (Unknown frame slots) mark = mark

-- ---- what events leave

-- an event left this core
abbrev pub after : KeptOf → State → KeptOf
after k core = record { core = core; mark = raised k.mark }

-- a failure is kept
abbrev pub failing : KeptOf → KeptOf
failing k = after k (broken k.core)

-- a piece of this part was taken
abbrev pub taking : KeptOf → ℕ → KeptOf
taking k part = after k (given k.core part)

-- the frame under assembly was published
abbrev pub publishing : KeptOf → KeptOf
publishing k = after k (published k.core)

abbrev pub is_want : Option ℕ → ℕ → Bool
is_want None cycle = false
is_want (Some want) cycle = want == cycle

-- a session wants a cycle: no event where it does already
abbrev pub wanting : KeptOf → ℕ → ℕ → KeptOf
wanting k session cycle = if is_want (want_at k.core.wants session) cycle then k else after k (wanted k.core session cycle)
