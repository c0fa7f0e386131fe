-- What a command line may come to, by the files that its words name.
use Rattle.std.specs.Prelude.{ℕ, ◌<◌, ◌≤◌, ◌≡◌, List, [], ◌∷◌, map, sum, length, codes, Option, Some, None, Ok, Err}
use Rattle.std.specs.Fmt.{decimal}
use Rattle.cif_io.specs.Outside.{Files, file_named, file_limit}
use Rattle.cif_defs.specs.Text.{line_end}
use Rattle.cif_defs.specs.Cells.{state_bits}
use Rattle.cif_defs.specs.Netlist.{Netlist}
use Rattle.cif_defs.specs.Accepted.{netlist_of}
use Rattle.cif_defs.specs.Stimulus.{Stimulus}
use Rattle.cif_defs.specs.EvalText.{eval_text}
use Rattle.cif_defs.specs.Loop.{IsLoop}
use Rattle.cif_defs.specs.declared.raw_module.Raw.{Raw}
use Rattle.cif_checks.specs.Checks.{build_fault, IsAccepted}
use Rattle.cif_checks.specs.declared.fault.BuildFault.{BuildFault}
use Rattle.cif_level.specs.LevelFaults.{HasLeastNameFirst}
use Rattle.cif_level.specs.declared.fault.LevelFault.TheVariants.{Loop}
use Rattle.cif_json.specs.Answers.{ComesTo, IsRefused}
use Rattle.cif_stimulus.specs.StimulusText.{stimulus_read, stimulus_text}
use Rattle.cif_stimulus.specs.declared.fault.StimFault.{StimFault}
use Rattle.cif_augment.specs.Stimuli.{augmented}
use Rattle.cif_script.specs.Scripts.{ScriptData}
use Rattle.cif_script.specs.ScriptText.{script_of}
use Rattle.cif_script.specs.declared.fault.ScriptFault.{ScriptFault}
use Rattle.cif_run.specs.Runs.{ToldData, IsRun, run_text_of}
use Rattle.cif_run.specs.declared.size.RunSize.{RunSize}
use Rattle.cif_json.specs.declared.fault.JsonFault.{JsonFault}
use Rattle.cif_desk.specs.Commands.{Command, check, eval, augstim, run, net_word, stim_word}
use Rattle.cif_desk.specs.Refusals.{Refusal, joined, too_long, json_refusal, build_refusal, loop_refusal, stim_refusal, script_refusal}

-- ---- files

-- a told file that isn't too long
pub record HoldsFile (files : Files) (name bytes : List ℕ) : Type 0 where
  pub told : file_named files name ≡ Some bytes
  pub within : length bytes ≤ file_limit

-- the same, where the store tells its files
pub record FileTold (told : Option Files) (name bytes : List ℕ) : Type 0 where
  pub holds : (files : Files) → told ≡ Some files → HoldsFile files name bytes

pub record HoldsLongFile (files : Files) (name : List ℕ) : Type 0 where
  pub bytes : List ℕ
  pub told : file_named files name ≡ Some bytes
  pub long : file_limit < length bytes

pub record LongFileTold (told : Option Files) (name : List ℕ) (refusal : Refusal) : Type 0 where
  pub holds : (files : Files) → told ≡ Some files → HoldsLongFile files name
  pub is : too_long name ≡ refusal

-- ---- netlists

-- bytes that pass every check of a netlist file, and the module that they say
pub record IsNetlist (bytes : List ℕ) (raw : Raw) : Type 0 where
  pub read : ComesTo bytes (Ok raw)
  pub accepted : IsAccepted raw
  pub no_loop : (cells : List ℕ) → ¬ IsLoop (netlist_of raw) cells

-- the check that bytes fail first: their reading, the checks of the module, or that it has no loop; of a loop the cell of
-- the least name is told first
pub data FailsNetlist (bytes : List ℕ) (refusal : Refusal) : Type 0 where
  unread : (fault : JsonFault) → IsRefused bytes fault → json_refusal fault ≡ Some refusal → FailsNetlist bytes refusal
  unaccepted : (raw : Raw) (fault : BuildFault) → ComesTo bytes (Ok raw) → build_fault raw ≡ Some fault → build_refusal fault ≡ Some refusal → FailsNetlist bytes refusal
  looped : (raw : Raw) (cells : List ℕ) → ComesTo bytes (Ok raw) → IsAccepted raw → IsLoop (netlist_of raw) cells → HasLeastNameFirst (netlist_of raw) (Loop cells)
      → loop_refusal (netlist_of raw) cells ≡ refusal → FailsNetlist bytes refusal

-- the file of a name passes every check
pub record HoldsNetlist (files : Files) (name : List ℕ) (raw : Raw) : Type 0 where
  pub bytes : List ℕ
  pub held : HoldsFile files name bytes
  pub passes : IsNetlist bytes raw

pub data RefusesNetlist (files : Files) (name : List ℕ) (refusal : Refusal) : Type 0 where
  long_netlist : HoldsLongFile files name → too_long name ≡ refusal → RefusesNetlist files name refusal
  bad_netlist : (bytes : List ℕ) → HoldsFile files name bytes → FailsNetlist bytes refusal → RefusesNetlist files name refusal

-- ---- stimuli

-- for the netlist of a module
pub record HoldsStimulus (files : Files) (name : List ℕ) (raw : Raw) (s : Stimulus) : Type 0 where
  pub bytes : List ℕ
  pub held : HoldsFile files name bytes
  pub read : stimulus_read raw bytes ≡ Ok s

pub data RefusesStimulus (files : Files) (name : List ℕ) (raw : Raw) (refusal : Refusal) : Type 0 where
  long_stimulus : HoldsLongFile files name → too_long name ≡ refusal → RefusesStimulus files name raw refusal
  bad_stimulus : (bytes : List ℕ) (fault : StimFault) → HoldsFile files name bytes → stimulus_read raw bytes ≡ Err fault → stim_refusal fault ≡ Some refusal → RefusesStimulus files name raw refusal

-- ---- scripts of sessions

-- for the netlist of a module
pub record HoldsScript (files : Files) (name : List ℕ) (raw : Raw) (script : ScriptData) : Type 0 where
  pub bytes : List ℕ
  pub held : HoldsFile files name bytes
  pub read : script_of raw bytes ≡ Ok script

pub data RefusesScript (files : Files) (name : List ℕ) (raw : Raw) (refusal : Refusal) : Type 0 where
  long_script : HoldsLongFile files name → too_long name ≡ refusal → RefusesScript files name raw refusal
  bad_script : (bytes : List ℕ) (fault : ScriptFault) → HoldsFile files name bytes → script_of raw bytes ≡ Err fault → script_refusal fault ≡ Some refusal → RefusesScript files name raw refusal

-- ---- the same, where the store tells its files

pub record NetlistTold (told : Option Files) (name : List ℕ) (raw : Raw) : Type 0 where
  pub holds : (files : Files) → told ≡ Some files → HoldsNetlist files name raw

pub record NetlistRefused (told : Option Files) (name : List ℕ) (refusal : Refusal) : Type 0 where
  pub refuses : (files : Files) → told ≡ Some files → RefusesNetlist files name refusal

pub record StimulusTold (told : Option Files) (name : List ℕ) (raw : Raw) (s : Stimulus) : Type 0 where
  pub holds : (files : Files) → told ≡ Some files → HoldsStimulus files name raw s

pub record StimulusRefused (told : Option Files) (name : List ℕ) (raw : Raw) (refusal : Refusal) : Type 0 where
  pub refuses : (files : Files) → told ≡ Some files → RefusesStimulus files name raw refusal

pub record ScriptTold (told : Option Files) (name : List ℕ) (raw : Raw) (script : ScriptData) : Type 0 where
  pub holds : (files : Files) → told ≡ Some files → HoldsScript files name raw script

pub record ScriptRefused (told : Option Files) (name : List ℕ) (raw : Raw) (refusal : Refusal) : Type 0 where
  pub refuses : (files : Files) → told ≡ Some files → RefusesScript files name raw refusal

-- ---- what is answered

-- `accepted cells C bits B state S`: all cells, the net bits, and the bits of registers and memories
abbrev pub check_text : Netlist → List ℕ
check_text n = joined (
    codes "accepted cells " ∷ decimal (length n.cells) ∷ codes " bits " ∷ decimal (length n.drivers) ∷
    codes " state " ∷ decimal (sum (map state_bits n.cells)) ∷ (line_end ∷ []) ∷ [])

pub data Answer : Type 0 where
  usage : Answer
  refused : Refusal → Answer
  text : List ℕ → Answer

-- each file is read and checked wholly before the next; a run may come to the text of any answers that are legal, with any
-- counts of its workers that add up
pub data Permits (files : Files) : Command → Answer → Type 0 where
  netlist_refused : (c : Command) (refusal : Refusal) → RefusesNetlist files (net_word c) refusal → Permits files c (refused refusal)
  checked : (net : List ℕ) (raw : Raw) → HoldsNetlist files net raw → Permits files (check net) (text (check_text (netlist_of raw)))
  stimulus_refused : (c : Command) (stim : List ℕ) (raw : Raw) (refusal : Refusal) → stim_word c ≡ Some stim → HoldsNetlist files (net_word c) raw → RefusesStimulus files stim raw refusal → Permits files c (refused refusal)
  evaluated : (net stim : List ℕ) (raw : Raw) (s : Stimulus) → HoldsNetlist files net raw → HoldsStimulus files stim raw s → Permits files (eval net stim) (text (eval_text (netlist_of raw) s))
  augmented_stimulus : (net stim : List ℕ) (raw : Raw) (s : Stimulus) → HoldsNetlist files net raw → HoldsStimulus files stim raw s
      → Permits files (augstim net stim) (text (stimulus_text (augmented (netlist_of raw) s)))
  script_refused : (net stim sessions : List ℕ) (size : RunSize) (raw : Raw) (s : Stimulus) (refusal : Refusal) → HoldsNetlist files net raw → HoldsStimulus files stim raw s → RefusesScript files sessions raw refusal
      → Permits files (run net stim sessions size) (refused refusal)
  ran : (net stim sessions : List ℕ) (size : RunSize) (raw : Raw) (s : Stimulus) (script : ScriptData) (told : ToldData) → HoldsNetlist files net raw → HoldsStimulus files stim raw s → HoldsScript files sessions raw script
      → IsRun (netlist_of raw) s script size told → Permits files (run net stim sessions size) (text (run_text_of script told))

-- a permitted answer to what was asked: where the words fit no form, usage alone; else one that the files permit, where
-- the store tells its files
abbrev pub IsAllowed : Option Files → Option Command → Answer → Type 0
IsAllowed told None answer = answer ≡ usage
IsAllowed told (Some c) answer = (files : Files) → told ≡ Some files → Permits files c answer

-- a file word that is fetched: each file word before it names a file that passes all its checks, where the store tells its files
pub data IsDue (told : Option Files) : Option Command → List ℕ → Type 0 where
  netlist_word : (c : Command) → IsDue told (Some c) (net_word c)
  stimulus_word : (c : Command) (stim : List ℕ) → stim_word c ≡ Some stim → ((files : Files) → told ≡ Some files → (raw : Raw) × HoldsNetlist files (net_word c) raw) → IsDue told (Some c) stim
  sessions_word : (net stim sessions : List ℕ) (size : RunSize) → ((files : Files) → told ≡ Some files → (raw : Raw) × (s : Stimulus) × HoldsNetlist files net raw × HoldsStimulus files stim raw s)
      → IsDue told (Some (run net stim sessions size)) sessions
