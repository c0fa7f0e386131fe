-- What a call answers.
use Rattle.std.specs.Prelude.{ℕ, ◌≤◌, ◌≡◌, ◌⊎◌, List, [], Option, None, IsSome}
use Rattle.cif_io.specs.Outside.{Files, Rose, Appends, AppendsPrefix}
use Rattle.cif_defs.specs.Messages.{usage_line}
use Rattle.cif_desk.specs.Commands.{Command}
use Rattle.cif_desk.specs.Permitted.{IsDue}
use Rattle.cif_desk.specs.Ends.{WritesOut, WritesErr, WritesApart}

-- before a call, and after it
pub record Change (A : Type 0) : Type 0 where
  pub old : A
  pub new : A

-- a call, as the store and the sinks tell it
pub record Call : Type 0 where
  -- what its words ask for
  pub asked : Option Command
  -- the files of the store
  pub told : Option Files
  -- the name of the last fetch that failed
  pub failed : List ℕ
  -- the counts of faults
  pub store_faults : Change ℕ
  pub out_faults : Change ℕ
  pub err_faults : Change ℕ
  -- what out and err took
  pub out : Change (Option (List ℕ))
  pub err : Change (Option (List ℕ))

abbrev pub HasFault : Change ℕ → Type 0
HasFault faults = Rose faults.old faults.new

-- the status is 0 where the text was written whole, 1 for usage, 2 for a refusal, 3 for a read fault, 4 for a write fault,
-- and 5 for want of memory
pub record Answers (call : Call) (status : ℕ) : Type 0 where
  pub range : status ≤ 5
  -- usage comes exactly where the words fit no form, unless err fails to take its line; nothing else is told then
  pub usage_only : status ≡ 1 → call.asked ≡ None
  pub usage : call.asked ≡ None → (status ≡ 1) ⊎ ((status ≡ 4) × HasFault call.err_faults)
  pub usage_alone : call.asked ≡ None → Appends call.out.old call.out.new [] × AppendsPrefix call.err.old call.err.new usage_line
  -- a fault comes only where a count rose, and a read fault only at a file word that is due
  pub read_fault : status ≡ 3 → HasFault call.store_faults × IsDue call.told call.asked call.failed
  pub write_fault : status ≡ 4 → HasFault call.out_faults ⊎ HasFault call.err_faults
  pub memory : status ≡ 5 → IsSome call.asked
  pub complete : IsSome call.asked → ¬ HasFault call.store_faults → ¬ HasFault call.out_faults → ¬ HasFault call.err_faults
      → (status ≡ 0) ⊎ ((status ≡ 2) ⊎ (status ≡ 5))
  -- out takes a permitted text, a beginning of one, or nothing; err takes nothing, one line, or a beginning of one
  pub out : WritesOut call.told call.asked status call.out.old call.out.new
  pub err : WritesErr call.told call.asked call.failed status call.err.old call.err.new
  -- each bit that out shows untainted has the value that is shown, under every stimulus that agrees up to its cycle; that of
  -- an answer to a session is the session's own
  pub noninterference : status ≡ 0 → WritesApart call.told call.asked call.out.old call.out.new
