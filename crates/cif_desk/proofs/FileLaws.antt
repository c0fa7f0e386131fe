-- Stops at files, and what a file's reading says.
use Rattle.std.specs.Prelude.{ℕ, ◌<◌, ◌≡◌, true, List, Option, Some, Result, Ok, Err}
use Rattle.std.proofs.Common.{arith, ap, sym, subst, ◌∙◌}
use Rattle.std.proofs.lemmas.Bool.Decides.{nat_tests}
use Rattle.cif_io.specs.Outside.{Files}
use Rattle.cif_defs.specs.Stimulus.{Stimulus}
use Rattle.cif_defs.specs.Accepted.{netlist_of}
use Rattle.cif_defs.specs.Loop.{IsLoop}
use Rattle.cif_defs.specs.declared.raw_module.Raw.{Raw}
use Rattle.cif_checks.specs.Checks.{IsAccepted, IsFirst}
use Rattle.cif_checks.specs.declared.fault.BuildFault.{BuildFault}
use Rattle.cif_checks.specs.declared.fault.BuildFault.TheVariants.{Memory}
use Rattle.cif_level.specs.LevelFaults.{HasLeastNameFirst}
use Rattle.cif_level.specs.declared.fault.LevelFault.TheVariants.{Loop}
use Rattle.cif_json.specs.Answers.{ComesTo}
use Rattle.cif_stimulus.specs.Places.{is_cycle_count}
use Rattle.cif_stimulus.specs.StimulusText.{stimulus_read}
use Rattle.cif_stim_read.specs.Reading.{IsFirst as IsFirstRead}
use Rattle.cif_stimulus.specs.declared.fault.StimFault.{StimFault}
use Rattle.cif_stimulus.specs.declared.fault.StimFault.TheVariants.{Memory as NoRoom}
use Rattle.cif_script.specs.Scripts.{ScriptData}
use Rattle.cif_script.specs.ScriptText.{script_of}
use Rattle.cif_script.specs.Seen.{IsFirst as IsFirstScript}
use Rattle.cif_script.specs.declared.fault.ScriptFault.{ScriptFault}
use Rattle.cif_script.specs.declared.fault.ScriptFault.TheVariants.{Memory as NoScript}
use Rattle.cif_desk.specs.Refusals.{Refusal, build_refusal, loop_refusal, stim_refusal, script_refusal}
use Rattle.cif_desk.specs.Permitted.{FileTold, LongFileTold, IsNetlist, FailsNetlist, looped, long_netlist, bad_netlist, NetlistTold, NetlistRefused, long_stimulus, bad_stimulus, StimulusTold, StimulusRefused, long_script, bad_script, ScriptTold, ScriptRefused}
use Rattle.cif_desk.specs.Stops.{StopsBy, StopsAtFile}
use Rattle.cif_desk.specs.declared.stop.Stop.{Stop}
use Rattle.cif_desk.specs.declared.stop.Stop.TheVariants.{Usage, Refused, Unread, Unwritten, NoMemory}

-- ---- stops

pub StopsBy-weaker : (P Q : Refusal → Type 0) (stop : Stop) → ((r : Refusal) → P r → Q r) → StopsBy P stop → StopsBy Q stop
StopsBy-weaker P Q Usage f h = h
StopsBy-weaker P Q (Refused line) f h = (h.0, f h.0 h.1, h.2)
StopsBy-weaker P Q (Unread line) f h = h
StopsBy-weaker P Q Unwritten f h = h
StopsBy-weaker P Q NoMemory f h = h

-- a stop by what a file holds
pub StopsAtFile-by : (P Q : Refusal → Type 0) (fault : Type 0) (name : List ℕ) (stop : Stop) → ((r : Refusal) → P r → Q r) → StopsBy P stop → StopsAtFile Q fault name stop
StopsAtFile-by P Q fault name Usage f h = h
StopsAtFile-by P Q fault name (Refused line) f h = (h.0, f h.0 h.1, h.2)
StopsAtFile-by P Q fault name (Unread line) f h = absurd h
StopsAtFile-by P Q fault name Unwritten f h = h
StopsAtFile-by P Q fault name NoMemory f h = h

-- a stop by the fetch of a file
pub StopsAtFile-weaker : (P Q : Refusal → Type 0) (fault : Type 0) (name : List ℕ) (stop : Stop) → ((r : Refusal) → P r → Q r) → StopsAtFile P fault name stop → StopsAtFile Q fault name stop
StopsAtFile-weaker P Q fault name Usage f h = h
StopsAtFile-weaker P Q fault name (Refused line) f h = (h.0, f h.0 h.1, h.2)
StopsAtFile-weaker P Q fault name (Unread line) f h = h
StopsAtFile-weaker P Q fault name Unwritten f h = h
StopsAtFile-weaker P Q fault name NoMemory f h = h

-- ---- netlists

-- a fault that has a refusal is the first that was found
pub first_found : (found : Option BuildFault) (fault : BuildFault) (r : Refusal) → IsFirst found fault → build_refusal fault ≡ Some r → found ≡ Some fault
first_found found Memory r h e = absurd (cc)
first_found found fault r h e = h

pub fails_by_loop : (bytes : List ℕ) (raw : Raw) (cells items : List ℕ) (r : Refusal) → ComesTo bytes (Ok raw) → IsAccepted raw → IsLoop (netlist_of raw) cells → HasLeastNameFirst (netlist_of raw) (Loop cells) → items ≡ cells → loop_refusal (netlist_of raw) items ≡ r → FailsNetlist bytes r
fails_by_loop bytes raw cells items r read accepted loop least e is = looped raw cells read accepted loop least (ap (loop_refusal (netlist_of raw)) (sym e) ∙ is)

pub netlist_told : (told : Option Files) (name bytes held : List ℕ) (raw : Raw) → FileTold told name held → bytes ≡ held → IsNetlist bytes raw → NetlistTold told name raw
netlist_told told name bytes held raw file e passes = record {
  holds = λ files t. record { bytes = held; held = file.holds files t; passes = (let P : List ℕ → Type 0 = λ b. IsNetlist b raw in subst P e passes) };
}

pub long_netlist_refused : (told : Option Files) (name : List ℕ) (r : Refusal) → LongFileTold told name r → NetlistRefused told name r
long_netlist_refused told name r h = record { refuses = λ files t. long_netlist (h.holds files t) h.is }

pub bad_netlist_refused : (told : Option Files) (name bytes held : List ℕ) (r : Refusal) → FileTold told name held → bytes ≡ held → FailsNetlist bytes r → NetlistRefused told name r
bad_netlist_refused told name bytes held r file e fails = record {
  refuses = λ files t. bad_netlist held (file.holds files t) (let P : List ℕ → Type 0 = λ b. FailsNetlist b r in subst P e fails);
}

-- ---- stimuli

-- a fault that has a refusal is the one that the reading gives
pub read_first : (found : Result Stimulus StimFault) (fault : StimFault) (r : Refusal) → IsFirstRead found fault → stim_refusal fault ≡ Some r → found ≡ Err fault
read_first found NoRoom r h e = absurd (cc)
read_first found fault r h e = h

pub stimulus_told : (told : Option Files) (name bytes held : List ℕ) (raw : Raw) (s : Stimulus) → FileTold told name held → bytes ≡ held → stimulus_read raw bytes ≡ Ok s → StimulusTold told name raw s
stimulus_told told name bytes held raw s file e read = record {
  holds = λ files t. record { bytes = held; held = file.holds files t; read = ap (stimulus_read raw) (sym e) ∙ read };
}

pub long_stimulus_refused : (told : Option Files) (name : List ℕ) (raw : Raw) (r : Refusal) → LongFileTold told name r → StimulusRefused told name raw r
long_stimulus_refused told name raw r h = record { refuses = λ files t. long_stimulus (h.holds files t) h.is }

pub bad_stimulus_refused : (told : Option Files) (name bytes held : List ℕ) (raw : Raw) (r : Refusal) → FileTold told name held → bytes ≡ held → (fault : StimFault) × (stimulus_read raw bytes ≡ Err fault) × (stim_refusal fault ≡ Some r) → StimulusRefused told name raw r
bad_stimulus_refused told name bytes held raw r file e h = record {
  refuses = λ files t. bad_stimulus held h.0 (file.holds files t) (ap (stimulus_read raw) (sym e) ∙ h.1) h.2;
}

-- ---- scripts of sessions

-- a fault that has a refusal is the one that the reading gives
pub script_first : (found : Result ScriptData ScriptFault) (fault : ScriptFault) (r : Refusal) → IsFirstScript found fault → script_refusal fault ≡ Some r → found ≡ Err fault
script_first found NoScript r h e = absurd (cc)
script_first found fault r h e = h

pub script_told : (told : Option Files) (name bytes held : List ℕ) (raw : Raw) (script : ScriptData) → FileTold told name held → bytes ≡ held → script_of raw bytes ≡ Ok script → ScriptTold told name raw script
script_told told name bytes held raw script file e read = record {
  holds = λ files t. record { bytes = held; held = file.holds files t; read = ap (script_of raw) (sym e) ∙ read };
}

pub long_script_refused : (told : Option Files) (name : List ℕ) (raw : Raw) (r : Refusal) → LongFileTold told name r → ScriptRefused told name raw r
long_script_refused told name raw r h = record { refuses = λ files t. long_script (h.holds files t) h.is }

pub bad_script_refused : (told : Option Files) (name bytes held : List ℕ) (raw : Raw) (r : Refusal) → FileTold told name held → bytes ≡ held → (fault : ScriptFault) × (script_of raw bytes ≡ Err fault) × (script_refusal fault ≡ Some r) → ScriptRefused told name raw r
bad_script_refused told name bytes held raw r file e h = record {
  refuses = λ files t. bad_script held h.0 (file.holds files t) (ap (script_of raw) (sym e) ∙ h.1) h.2;
}

-- ---- a stimulus has a cycle

pub some_cycles : (n : ℕ) → is_cycle_count n ≡ true → 0 < n
some_cycles n h = grind (arith, nat_tests)
