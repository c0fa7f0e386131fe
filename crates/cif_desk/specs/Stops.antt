-- Why a command ends before its whole text is written, and what tells it.
use Rattle.std.specs.Prelude.{ℕ, ◌≡◌, List, Option, None, Result, Ok, Err, Vec}
use Rattle.std.specs.declared.alloc.Global.{Global}
use Rattle.std.specs.declared.alloc.AllocError.{AllocError}
use Rattle.cif_io.specs.Outside.{Files, Appends, AppendsPrefix}
use Rattle.cif_defs.specs.Messages.{usage_line, read_fault_line, write_fault_line, memory_line}
use Rattle.cif_desk.specs.Commands.{Command}
use Rattle.cif_desk.specs.Refusals.{Refusal, line_of}
use Rattle.cif_desk.specs.Permitted.{IsDue}
use Rattle.cif_desk.specs.Ends.{TellsRefusal}
use Rattle.cif_desk.specs.declared.stop.Stop.{Stop}
use Rattle.cif_desk.specs.declared.stop.Stop.TheVariants.{Usage, Refused, Unread, Unwritten, NoMemory}

-- the line that tells a stop
abbrev pub stop_line : Stop → List ℕ
stop_line Usage = usage_line
stop_line (Refused line) = line
stop_line (Unread line) = line
stop_line Unwritten = write_fault_line
stop_line NoMemory = memory_line

abbrev pub stop_status : Stop → ℕ
stop_status Usage = 1
stop_status (Refused line) = 2
stop_status (Unread line) = 3
stop_status Unwritten = 4
stop_status NoMemory = 5

-- the status of an end, where err takes the line
abbrev pub end_status : {A : Type 0} → Result A Stop → ℕ
end_status (Ok done) = 0
end_status (Err stop) = stop_status stop

-- the stop tells a line that was made, or that there was no memory for it
abbrev pub IsStopOf : Result (Vec ℕ Global) AllocError → Stop → Type 0
IsStopOf (Ok line) stop = stop ≡ Refused line.items
IsStopOf (Err none) stop = stop ≡ NoMemory

-- the stop tells that the file of that name wasn't given, or that there was no memory for the line
abbrev pub IsUnread : List ℕ → Stop → Type 0
IsUnread name Usage = ⊥
IsUnread name (Refused line) = ⊥
IsUnread name (Unread line) = line ≡ read_fault_line name
IsUnread name Unwritten = ⊥
IsUnread name NoMemory = Unit {0}

-- the stop is for a refusal of those that P has, or for want of memory
abbrev pub StopsBy : (Refusal → Type 0) → Stop → Type 0
StopsBy P Usage = ⊥
StopsBy P (Refused line) = (r : Refusal) × P r × (line ≡ line_of r)
StopsBy P (Unread line) = ⊥
StopsBy P Unwritten = ⊥
StopsBy P NoMemory = Unit {0}

-- the same, where the file of that name is fetched before
abbrev pub StopsAtFile : (Refusal → Type 0) → Type 0 → List ℕ → Stop → Type 0
StopsAtFile P fault name Usage = ⊥
StopsAtFile P fault name (Refused line) = (r : Refusal) × P r × (line ≡ line_of r)
StopsAtFile P fault name (Unread line) = fault × (line ≡ read_fault_line name)
StopsAtFile P fault name Unwritten = ⊥
StopsAtFile P fault name NoMemory = Unit {0}

-- the cause of a stop; failed is the name of the last fetch that failed
abbrev pub HasCause : Option Files → Option Command → List ℕ → Type 0 → Type 0 → Stop → Type 0
HasCause told asked failed read_fault write_fault Usage = asked ≡ None
HasCause told asked failed read_fault write_fault (Refused line) = TellsRefusal told asked line
HasCause told asked failed read_fault write_fault (Unread line) = read_fault × IsDue told asked failed × (line ≡ read_fault_line failed)
HasCause told asked failed read_fault write_fault Unwritten = write_fault
HasCause told asked failed read_fault write_fault NoMemory = Unit {0}

-- a line was written to err, or failed there, which is status 4
pub data Says (line : List ℕ) (status : ℕ) (fault : Type 0) (old new : Option (List ℕ)) (result : ℕ) : Type 0 where
  said : result ≡ status → Appends old new line → Says line status fault old new result
  unsaid : result ≡ 4 → fault → AppendsPrefix old new line → Says line status fault old new result

-- the writing of a text stops at a fault of out, or for want of memory
abbrev pub StopsWriting : Type 0 → Option (List ℕ) → Option (List ℕ) → List ℕ → Stop → Type 0
StopsWriting fault old new text Usage = ⊥
StopsWriting fault old new text (Refused line) = ⊥
StopsWriting fault old new text (Unread line) = ⊥
StopsWriting fault old new text Unwritten = fault × AppendsPrefix old new text
StopsWriting fault old new text NoMemory = AppendsPrefix old new text
