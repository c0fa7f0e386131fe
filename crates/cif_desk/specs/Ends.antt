-- What a call leaves, by the status that it ends with: 0 the whole text, 1 usage, 2 a refusal, 3 a read fault, 4 a write
-- fault, 5 want of memory.
use Rattle.std.specs.Prelude.{ℕ, ◌≤◌, ◌≡◌, ◌≢◌, ◌⊎◌, ⊤, List, [], ◌++◌, Option, Some, None, IsSome}
use Rattle.cif_io.specs.Outside.{Files, Appends}
use Rattle.cif_defs.specs.Accepted.{netlist_of}
use Rattle.cif_defs.specs.Stimulus.{Stimulus}
use Rattle.cif_defs.specs.Messages.{usage_line, read_fault_line, write_fault_line, memory_line}
use Rattle.cif_defs.specs.declared.raw_module.Raw.{Raw}
use Rattle.cif_script.specs.Scripts.{ScriptData}
use Rattle.cif_desk.specs.Commands.{Command, check, eval, augstim, run}
use Rattle.cif_desk.specs.Refusals.{Refusal, line_of}
use Rattle.cif_desk.specs.Permitted.{refused, text, IsAllowed, IsDue, HoldsNetlist, HoldsStimulus, HoldsScript}
use Rattle.cif_desk.specs.Showing.{ShowsApart, RunsApart}

-- ---- out

-- the beginning of a permitted text, or nothing
abbrev pub IsBeginning : Option Files → Option Command → List ℕ → Type 0
IsBeginning told asked bytes = (bytes ≡ []) ⊎ ((rest : List ℕ) × IsAllowed told asked (text (bytes ++ rest)))

-- what out took in a call
pub record WritesOut (told : Option Files) (asked : Option Command) (status : ℕ) (old new : Option (List ℕ)) : Type 0 where
  pub bytes : List ℕ
  pub appended : Appends old new bytes
  pub whole : status ≡ 0 → IsAllowed told asked (text bytes)
  pub nothing : 1 ≤ status → status ≤ 3 → bytes ≡ []
  pub part : 4 ≤ status → IsBeginning told asked bytes
  -- but for `eval`, want of memory comes before the first write
  pub whole_texts : status ≡ 5 → ((net stim : List ℕ) → asked ≢ Some (eval net stim)) → bytes ≡ []

-- ---- err

-- the line of a refusal that is permitted
abbrev pub TellsRefusal : Option Files → Option Command → List ℕ → Type 0
TellsRefusal told asked bytes = (r : Refusal) × IsAllowed told asked (refused r) × (bytes ≡ line_of r)

-- a line that may be told; failed is the name of the last fetch that failed
pub data MayTell (told : Option Files) (asked : Option Command) (failed bytes : List ℕ) : Type 0 where
  tells_usage : asked ≡ None → bytes ≡ usage_line → MayTell told asked failed bytes
  tells_refusal : TellsRefusal told asked bytes → MayTell told asked failed bytes
  tells_read_fault : IsDue told asked failed → bytes ≡ read_fault_line failed → MayTell told asked failed bytes
  tells_write_fault : IsSome asked → bytes ≡ write_fault_line → MayTell told asked failed bytes
  tells_memory : IsSome asked → bytes ≡ memory_line → MayTell told asked failed bytes

-- what err took in a call
pub record WritesErr (told : Option Files) (asked : Option Command) (failed : List ℕ) (status : ℕ) (old new : Option (List ℕ)) : Type 0 where
  pub bytes : List ℕ
  pub appended : Appends old new bytes
  pub nothing : status ≡ 0 → bytes ≡ []
  pub usage : status ≡ 1 → bytes ≡ usage_line
  pub refusal : status ≡ 2 → TellsRefusal told asked bytes
  pub read_fault : status ≡ 3 → bytes ≡ read_fault_line failed
  pub part : status ≡ 4 → (rest : List ℕ) × MayTell told asked failed (bytes ++ rest)
  pub memory : status ≡ 5 → bytes ≡ memory_line

-- ---- noninterference

-- what out took shows no more of tainted bits than it says, where it was an evaluation or a run, and store and out tell
-- their content
abbrev pub WritesApart : Option Files → Option Command → Option (List ℕ) → Option (List ℕ) → Type 0
WritesApart told None old new = ⊤
WritesApart told (Some (check net)) old new = ⊤
WritesApart told (Some (eval net stim)) old new =
    (files : Files) (raw : Raw) (s : Stimulus) (before bytes : List ℕ) → told ≡ Some files
    → HoldsNetlist files net raw → HoldsStimulus files stim raw s → old ≡ Some before → new ≡ Some (before ++ bytes) → ShowsApart (netlist_of raw) s bytes
WritesApart told (Some (augstim net stim)) old new = ⊤
WritesApart told (Some (run net stim sessions size)) old new =
    (files : Files) (raw : Raw) (s : Stimulus) (script : ScriptData) (before bytes : List ℕ) → told ≡ Some files
    → HoldsNetlist files net raw → HoldsStimulus files stim raw s → HoldsScript files sessions raw script
    → old ≡ Some before → new ≡ Some (before ++ bytes) → RunsApart (netlist_of raw) s script size bytes
