-- What commands leave, by the way in which they end.
use Rattle.std.specs.Prelude.{ℕ, ◌≤◌, ◌≡◌, List, [], ◌++◌, Option, Some, Result, Ok, Err, OnOk, IfErr, refl}
use Rattle.std.proofs.Common.{arith, ap, sym, subst, inl, inr, ◌∙◌}
use Rattle.std.proofs.lemmas.List.{append_cancel_left}
use Rattle.cif_io.specs.Outside.{Files, Appends, AppendsPrefix, taken_with}
use Rattle.cif_io.proofs.OutsideLaws.{Appends-nothing}
use Rattle.cif_defs.specs.Netlist.{Netlist, IsWired}
use Rattle.cif_defs.specs.Stimulus.{Stimulus, TaintedWord}
use Rattle.cif_defs.specs.Accepted.{netlist_of}
use Rattle.cif_defs.specs.Loop.{IsLevelled}
use Rattle.cif_defs.specs.EvalText.{eval_text, cycle_text}
use Rattle.cif_defs.specs.Run.{value, src_word}
use Rattle.cif_defs.specs.TaintRun.{taint, taint_word}
use Rattle.cif_defs.specs.declared.nets.Wire.{Wire}
use Rattle.cif_defs.proofs.Agree.{src_complete}
use Rattle.cif_defs.specs.Messages.{read_fault_line}
use Rattle.cif_defs.specs.declared.raw_module.Raw.{Raw}
use Rattle.cif_defs.proofs.Noninterference.{noninterference}
use Rattle.cif_nets.proofs.Wired.{wired}
use Rattle.cif_json.specs.Answers.{ComesTo}
use Rattle.cif_desk.specs.Commands.{Command, check, eval, augstim, run, net_word, stim_word}
use Rattle.cif_desk.specs.Refusals.{Refusal}
use Rattle.cif_stimulus.specs.StimulusText.{stimulus_text}
use Rattle.cif_augment.specs.Stimuli.{augmented}
use Rattle.cif_script.specs.Scripts.{ScriptData}
use Rattle.cif_run.specs.Runs.{ToldData, IsRun, run_text_of}
use Rattle.cif_run.specs.declared.size.RunSize.{RunSize}
use Rattle.cif_desk.specs.Permitted.{Permits, HoldsNetlist, HoldsStimulus, HoldsScript, RefusesNetlist, NetlistTold, NetlistRefused, StimulusTold, StimulusRefused, ScriptTold, ScriptRefused, check_text, text, netlist_refused, checked, stimulus_refused, evaluated, augmented_stimulus, script_refused, ran, IsAllowed, IsDue, netlist_word, stimulus_word, sessions_word}
use Rattle.cif_desk.specs.Ends.{WritesOut, WritesApart}
use Rattle.cif_desk.specs.Showing.{ShowsApart, RunsApart, text_showing}
use Rattle.cif_desk.proofs.RunLaws.{runs_apart}
use Rattle.cif_desk.specs.Stops.{StopsAtFile, StopsWriting, HasCause, end_status, stop_status}
use Rattle.cif_desk.proofs.ShownBits.{length-src_word, length-taint_word}
use Rattle.cif_seq.specs.Cases.{CaseOf, net_of}
use Rattle.cif_desk.specs.declared.stop.Stop.{Stop}
use Rattle.cif_desk.specs.declared.stop.Stop.TheVariants.{Usage, Refused, Unread, Unwritten, NoMemory}

-- ---- out

pub out_whole : (told : Option Files) (asked : Option Command) (bytes : List ℕ) (old new : Option (List ℕ)) → IsAllowed told asked (text bytes) → Appends old new bytes → WritesOut told asked 0 old new
out_whole told asked bytes old new allowed h = record {
  bytes = bytes;
  appended = h;
  whole = λ e. allowed;
  nothing = λ a b. absurd (omega arith);
  part = λ a. absurd (omega arith);
  whole_texts = λ e f. absurd (omega arith);
}

pub out_nothing : (told : Option Files) (asked : Option Command) (status : ℕ) (old new : Option (List ℕ)) → 1 ≤ status → new ≡ old → WritesOut told asked status old new
out_nothing told asked status old new l h = record {
  bytes = [];
  appended = Appends-nothing h;
  whole = λ e. absurd (omega arith);
  nothing = λ a b. refl;
  part = λ a. inl refl;
  whole_texts = λ e f. refl;
}

allowed_along : (told : Option Files) (asked : Option Command) (s t : List ℕ) → s ≡ t → IsAllowed told asked (text t) → IsAllowed told asked (text s)
allowed_along told asked s t e h = let P : List ℕ → Type 0 = λ u. IsAllowed told asked (text u) in subst P (sym e) h

-- a beginning of a permitted text, at a write fault
pub out_broken : (told : Option Files) (asked : Option Command) (bytes : List ℕ) (old new : Option (List ℕ)) → IsAllowed told asked (text bytes) → AppendsPrefix old new bytes → WritesOut told asked 4 old new
out_broken told asked bytes old new allowed h = record {
  bytes = h.first;
  appended = h.appended;
  whole = λ e. absurd (omega arith);
  nothing = λ a b. absurd (omega arith);
  part = λ a. inr (h.rest, allowed_along told asked (h.first ++ h.rest) bytes h.is_beginning allowed);
  whole_texts = λ e f. absurd (omega arith);
}

-- the same for want of memory, in an evaluation
pub out_stopped : (told : Option Files) (net stim : List ℕ) (bytes : List ℕ) (old new : Option (List ℕ)) → IsAllowed told (Some (eval net stim)) (text bytes) → AppendsPrefix old new bytes → WritesOut told (Some (eval net stim)) 5 old new
out_stopped told net stim bytes old new allowed h = record {
  bytes = h.first;
  appended = h.appended;
  whole = λ e. absurd (omega arith);
  nothing = λ a b. absurd (omega arith);
  part = λ a. inr (h.rest, allowed_along told (Some (eval net stim)) (h.first ++ h.rest) bytes h.is_beginning allowed);
  whole_texts = λ e f. absurd (f net stim refl);
}

-- a stop at a file
pub out_at_file : (P : Refusal → Type 0) (fault : Type 0) (name : List ℕ) (told : Option Files) (asked : Option Command) (old new : Option (List ℕ)) (stop : Stop) → StopsAtFile P fault name stop → new ≡ old → WritesOut told asked (stop_status stop) old new
out_at_file P fault name told asked old new Usage h e = absurd h
out_at_file P fault name told asked old new (Refused line) h e = out_nothing told asked 2 old new (omega arith) e
out_at_file P fault name told asked old new (Unread line) h e = out_nothing told asked 3 old new (omega arith) e
out_at_file P fault name told asked old new Unwritten h e = absurd h
out_at_file P fault name told asked old new NoMemory h e = out_nothing told asked 5 old new (omega arith) e

-- a text that was made whole was written, or a beginning of it
out_of_text : {A : Type 0} (told : Option Files) (asked : Option Command) (bytes : List ℕ) (fault : Type 0) (old new : Option (List ℕ)) (r : Result A Stop) → IsAllowed told asked (text bytes) → OnOk r (Appends old new bytes) → IfErr r (StopsWriting fault old new bytes)
    → IfErr r (λ stop. stop ≡ Unwritten) → WritesOut told asked (end_status r) old new
out_of_text told asked bytes fault old new (Ok x) allowed ok stops is = out_whole told asked bytes old new allowed ok
out_of_text told asked bytes fault old new (Err Usage) allowed ok stops is = absurd stops
out_of_text told asked bytes fault old new (Err (Refused line)) allowed ok stops is = absurd stops
out_of_text told asked bytes fault old new (Err (Unread line)) allowed ok stops is = absurd stops
out_of_text told asked bytes fault old new (Err Unwritten) allowed ok stops is = out_broken told asked bytes old new allowed stops.1
out_of_text told asked bytes fault old new (Err NoMemory) allowed ok stops is = absurd (cc)

-- ---- commands

module _ (told : Option Files) (net : List ℕ) (raw : Raw) (netlist : NetlistTold told net raw) where
  check_allowed : (bytes : List ℕ) → bytes ≡ check_text (netlist_of raw) → IsAllowed told (Some (check net)) (text bytes)
  check_allowed bytes e = allowed_along told (Some (check net)) bytes (check_text (netlist_of raw)) e (λ files t. checked net raw (netlist.holds files t))

  -- the text of `check` was written, or a beginning of it
  pub out_of_check : {A : Type 0} (bytes : List ℕ) (fault : Type 0) (old new : Option (List ℕ)) (r : Result A Stop) → bytes ≡ check_text (netlist_of raw) → OnOk r (Appends old new bytes) → IfErr r (StopsWriting fault old new bytes) → IfErr r (λ stop. stop ≡ Unwritten) → WritesOut told (Some (check net)) (end_status r) old new
  out_of_check bytes fault old new r e ok stops is = out_of_text told (Some (check net)) bytes fault old new r (check_allowed bytes e) ok stops is

  pub eval_allowed : (stim : List ℕ) (s : Stimulus) → StimulusTold told stim raw s → IsAllowed told (Some (eval net stim)) (text (eval_text (netlist_of raw) s))
  eval_allowed stim s stimulus = λ files t. evaluated net stim raw s (netlist.holds files t) (stimulus.holds files t)

  -- the text of `eval` was written, or a beginning of it
  pub out_of_eval : {A : Type 0} (stim : List ℕ) (s : Stimulus) (fault : Type 0) (old new : Option (List ℕ)) (r : Result A Stop) → StimulusTold told stim raw s → OnOk r (Appends old new (eval_text (netlist_of raw) s)) → IfErr r (StopsWriting fault old new (eval_text (netlist_of raw) s)) → WritesOut told (Some (eval net stim)) (end_status r) old new
  out_of_eval stim s fault old new (Ok x) stimulus ok stops = out_whole told (Some (eval net stim)) (eval_text (netlist_of raw) s) old new (eval_allowed stim s stimulus) ok
  out_of_eval stim s fault old new (Err Usage) stimulus ok stops = absurd stops
  out_of_eval stim s fault old new (Err (Refused line)) stimulus ok stops = absurd stops
  out_of_eval stim s fault old new (Err (Unread line)) stimulus ok stops = absurd stops
  out_of_eval stim s fault old new (Err Unwritten) stimulus ok stops = out_broken told (Some (eval net stim)) (eval_text (netlist_of raw) s) old new (eval_allowed stim s stimulus) stops.1
  out_of_eval stim s fault old new (Err NoMemory) stimulus ok stops = out_stopped told net stim (eval_text (netlist_of raw) s) old new (eval_allowed stim s stimulus) stops

  -- the same, by the case that is evaluated
  pub out_of_case : {A : Type 0} (stim : List ℕ) (s : Stimulus) (order : List ℕ) (v : CaseOf) (fault : Type 0) (old new : Option (List ℕ)) (r : Result A Stop) → v ≡ record { raw = raw; order = order; stimulus = s } → StimulusTold told stim raw s → OnOk r (Appends old new (eval_text (net_of v) v.stimulus)) → IfErr r (StopsWriting fault old new (eval_text (net_of v) v.stimulus)) → WritesOut told (Some (eval net stim)) (end_status r) old new
  out_of_case stim s order v fault old new r e stimulus ok stops =
      let Whole : CaseOf → Type 0 = λ c. OnOk r (Appends old new (eval_text (net_of c) c.stimulus)) in
      let Stopped : CaseOf → Type 0 = λ c. IfErr r (StopsWriting fault old new (eval_text (net_of c) c.stimulus)) in
      out_of_eval stim s fault old new r stimulus (subst Whole e ok) (subst Stopped e stops)

  run_allowed : (stim sessions : List ℕ) (size : RunSize) (s : Stimulus) (script : ScriptData) (t : ToldData) (bytes : List ℕ) → StimulusTold told stim raw s → ScriptTold told sessions raw script → IsRun (netlist_of raw) s script size t → bytes ≡ run_text_of script t → IsAllowed told (Some (run net stim sessions size)) (text bytes)
  run_allowed stim sessions size s script t bytes stimulus held is_run e = allowed_along told (Some (run net stim sessions size)) bytes (run_text_of script t) e (λ files f. ran net stim sessions size raw s script t (netlist.holds files f) (stimulus.holds files f) (held.holds files f) is_run)

  -- the text of `run` was written, or a beginning of it
  pub out_of_run : {A : Type 0} (stim sessions : List ℕ) (size : RunSize) (s : Stimulus) (script : ScriptData) (t : ToldData) (bytes : List ℕ) (fault : Type 0) (old new : Option (List ℕ)) (r : Result A Stop) → StimulusTold told stim raw s → ScriptTold told sessions raw script → IsRun (netlist_of raw) s script size t → bytes ≡ run_text_of script t
      → OnOk r (Appends old new bytes) → IfErr r (StopsWriting fault old new bytes) → IfErr r (λ stop. stop ≡ Unwritten) → WritesOut told (Some (run net stim sessions size)) (end_status r) old new
  out_of_run stim sessions size s script t bytes fault old new r stimulus held is_run e ok stops is =
      out_of_text told (Some (run net stim sessions size)) bytes fault old new r (run_allowed stim sessions size s script t bytes stimulus held is_run e) ok stops is

  augstim_allowed : (stim : List ℕ) (s other : Stimulus) (bytes : List ℕ) → StimulusTold told stim raw s → other ≡ augmented (netlist_of raw) s → bytes ≡ stimulus_text other → IsAllowed told (Some (augstim net stim)) (text bytes)
  augstim_allowed stim s other bytes stimulus is e =
      allowed_along told (Some (augstim net stim)) bytes (stimulus_text (augmented (netlist_of raw) s)) (e ∙ ap stimulus_text is) (λ files t. augmented_stimulus net stim raw s (netlist.holds files t) (stimulus.holds files t))

  -- the text of `augstim` was written, or a beginning of it
  pub out_of_augstim : {A : Type 0} (stim : List ℕ) (s other : Stimulus) (bytes : List ℕ) (fault : Type 0) (old new : Option (List ℕ)) (r : Result A Stop) → StimulusTold told stim raw s → other ≡ augmented (netlist_of raw) s → bytes ≡ stimulus_text other
      → OnOk r (Appends old new bytes) → IfErr r (StopsWriting fault old new bytes) → IfErr r (λ stop. stop ≡ Unwritten) → WritesOut told (Some (augstim net stim)) (end_status r) old new
  out_of_augstim stim s other bytes fault old new r stimulus is e ok stops only =
      out_of_text told (Some (augstim net stim)) bytes fault old new r (augstim_allowed stim s other bytes stimulus is e) ok stops only

-- a run of a case is one of its netlist and stimulus
pub run_of_case : (raw : Raw) (order : List ℕ) (s : Stimulus) (c : CaseOf) (script : ScriptData) (size : RunSize) (t : ToldData) → c ≡ record { raw = raw; order = order; stimulus = s } → IsRun (net_of c) c.stimulus script size t → IsRun (netlist_of raw) s script size t
run_of_case raw order s c script size t e h = let P : CaseOf → Type 0 = λ v. IsRun (net_of v) v.stimulus script size t in subst P e h

-- ---- causes

-- a stop at the writing
pub cause_of_writing : (told : Option Files) (asked : Option Command) (failed : List ℕ) (read_fault write_fault : Type 0) (old new : Option (List ℕ)) (bytes : List ℕ) (stop : Stop) → StopsWriting write_fault old new bytes stop → HasCause told asked failed read_fault write_fault stop
cause_of_writing told asked failed read_fault write_fault old new bytes Usage h = absurd h
cause_of_writing told asked failed read_fault write_fault old new bytes (Refused line) h = absurd h
cause_of_writing told asked failed read_fault write_fault old new bytes (Unread line) h = absurd h
cause_of_writing told asked failed read_fault write_fault old new bytes Unwritten h = h.0
cause_of_writing told asked failed read_fault write_fault old new bytes NoMemory h = tt

due_along : (told : Option Files) (asked : Option Command) (name failed : List ℕ) → failed ≡ name → IsDue told asked name → IsDue told asked failed
due_along told asked name failed e h = let P : List ℕ → Type 0 = IsDue told asked in subst P (sym e) h

-- a stop at the netlist
pub cause_at_netlist : (told : Option Files) (c : Command) (name failed : List ℕ) (rose write_fault : Type 0) (stop : Stop) → net_word c ≡ name → StopsAtFile (NetlistRefused told name) (rose × (failed ≡ name)) name stop → HasCause told (Some c) failed rose write_fault stop
cause_at_netlist told c name failed rose write_fault Usage e h = absurd h
cause_at_netlist told c name failed rose write_fault (Refused line) e h = (
  h.0,
  (λ files t. netlist_refused c h.0 (let P : List ℕ → Type 0 = λ w. RefusesNetlist files w h.0 in subst P (sym e) (h.1.refuses files t))),
  h.2,
)
cause_at_netlist told c name failed rose write_fault (Unread line) e h = (
  h.0.0,
  due_along told (Some c) (net_word c) failed (h.0.1 ∙ sym e) (netlist_word c),
  h.1 ∙ ap read_fault_line (sym h.0.1),
)
cause_at_netlist told c name failed rose write_fault Unwritten e h = absurd h
cause_at_netlist told c name failed rose write_fault NoMemory e h = tt

-- a stop at the stimulus; mid is what the store tells after the netlist was fetched
pub cause_at_stimulus : (told mid : Option Files) (c : Command) (stim failed : List ℕ) (raw : Raw) (rose later write_fault : Type 0) (stop : Stop) → stim_word c ≡ Some stim → mid ≡ told → (rose → later) → NetlistTold told (net_word c) raw → StopsAtFile (StimulusRefused mid stim raw) (rose × (failed ≡ stim)) stim stop → HasCause told (Some c) failed later write_fault stop
cause_at_stimulus told mid c stim failed raw rose later write_fault Usage w e f netlist h = absurd h
cause_at_stimulus told mid c stim failed raw rose later write_fault (Refused line) w e f netlist h = (
  h.0,
  (λ files t. stimulus_refused c stim raw h.0 w (netlist.holds files t) (h.1.refuses files (e ∙ t))),
  h.2,
)
cause_at_stimulus told mid c stim failed raw rose later write_fault (Unread line) w e f netlist h = (
  f h.0.0,
  due_along told (Some c) stim failed h.0.1 (stimulus_word c stim w (λ files t. (raw, netlist.holds files t))),
  h.1 ∙ ap read_fault_line (sym h.0.1),
)
cause_at_stimulus told mid c stim failed raw rose later write_fault Unwritten w e f netlist h = absurd h
cause_at_stimulus told mid c stim failed raw rose later write_fault NoMemory w e f netlist h = tt

-- a stop at the sessions; mid is what the store tells after the stimulus was fetched
pub cause_at_script : (told mid : Option Files) (net stim sessions failed : List ℕ) (size : RunSize) (raw : Raw) (s : Stimulus) (rose later write_fault : Type 0) (stop : Stop) → mid ≡ told → (rose → later) → NetlistTold told net raw → StimulusTold told stim raw s → StopsAtFile (ScriptRefused mid sessions raw) (rose × (failed ≡ sessions)) sessions stop
    → HasCause told (Some (run net stim sessions size)) failed later write_fault stop
cause_at_script told mid net stim sessions failed size raw s rose later write_fault Usage e f netlist stimulus h = absurd h
cause_at_script told mid net stim sessions failed size raw s rose later write_fault (Refused line) e f netlist stimulus h = (
  h.0,
  (λ files t. script_refused net stim sessions size raw s h.0 (netlist.holds files t) (stimulus.holds files t) (h.1.refuses files (e ∙ t))),
  h.2,
)
cause_at_script told mid net stim sessions failed size raw s rose later write_fault (Unread line) e f netlist stimulus h = (
  f h.0.0,
  due_along told (Some (run net stim sessions size)) sessions failed h.0.1 (sessions_word net stim sessions size (λ files t. (raw, s, netlist.holds files t, stimulus.holds files t))),
  h.1 ∙ ap read_fault_line (sym h.0.1),
)
cause_at_script told mid net stim sessions failed size raw s rose later write_fault Unwritten e f netlist stimulus h = absurd h
cause_at_script told mid net stim sessions failed size raw s rose later write_fault NoMemory e f netlist stimulus h = tt

-- what the store tells stays
pub StimulusTold-along : (told mid : Option Files) (name : List ℕ) (raw : Raw) (s : Stimulus) → mid ≡ told → StimulusTold mid name raw s → StimulusTold told name raw s
StimulusTold-along told mid name raw s e h = record { holds = λ files t. h.holds files (e ∙ t) }

pub ScriptTold-along : (told mid : Option Files) (name : List ℕ) (raw : Raw) (script : ScriptData) → mid ≡ told → ScriptTold mid name raw script → ScriptTold told name raw script
ScriptTold-along told mid name raw script e h = record { holds = λ files t. h.holds files (e ∙ t) }

-- ---- noninterference

-- bytes say one module at most
same_module : (bytes : List ℕ) (a b : Raw) → ComesTo bytes (Ok a) → ComesTo bytes (Ok b) → a ≡ b
same_module bytes a b h k =
    let d = h.1.1 in
    let e = k.1.1 in
    let same : h.0 ≡ k.0 = cc in
    let read = h.2 in
    let again = k.2 in
    cc

same_netlist : (files : Files) (name : List ℕ) (a b : Raw) → HoldsNetlist files name a → HoldsNetlist files name b → a ≡ b
same_netlist files name a b h k =
    let first = h.held.told in
    let second = k.held.told in
    let same : h.bytes ≡ k.bytes = cc in
    let P : List ℕ → Type 0 = λ bytes. ComesTo bytes (Ok a) in
    same_module k.bytes a b (subst P same h.passes.read) k.passes.read

same_stimulus : (files : Files) (name : List ℕ) (raw : Raw) (a b : Stimulus) → HoldsStimulus files name raw a → HoldsStimulus files name raw b → a ≡ b
same_stimulus files name raw a b h k =
    let first = h.held.told in
    let second = k.held.told in
    let same : h.bytes ≡ k.bytes = cc in
    let read = h.read in
    let again = k.read in
    cc

same_script : (files : Files) (name : List ℕ) (raw : Raw) (a b : ScriptData) → HoldsScript files name raw a → HoldsScript files name raw b → a ≡ b
same_script files name raw a b h k =
    let first = h.held.told in
    let second = k.held.told in
    let same : h.bytes ≡ k.bytes = cc in
    let read = h.read in
    let again = k.read in
    cc

-- what is evaluated, as its text shows it
frame_words : Netlist → Stimulus → ℕ → Wire → TaintedWord
frame_words n s k w = record { value = src_word (value n s k) w.bits; taint = taint_word (taint n s k) w.bits }

text_of_frames : (n : Netlist) (s : Stimulus) → eval_text n s ≡ text_showing n s.cycles (frame_words n s)
unfolding eval_text cycle_text frame_words
text_of_frames n s = refl

-- a text of `eval` shows no more of tainted bits than it says
shows_apart : (n : Netlist) (order : List ℕ) (s : Stimulus) (bytes : List ℕ) → IsWired n → IsLevelled n order → bytes ≡ eval_text n s → ShowsApart n s bytes
unfolding frame_words
shows_apart n order s bytes wired levelled e = record {
  shown = frame_words n s;
  is = e ∙ text_of_frames n s;
  values_as_long = λ k w. length-src_word (value n s k) w.bits;
  taints_as_long = λ k w. length-taint_word (taint n s k) w.bits;
  same = λ u k w agrees. src_complete (value n s k) (value n u k) (taint n s k) w.bits (λ j b is clear. noninterference n order s u k wired levelled agrees b clear);
}

-- the text that an evaluation is allowed to write
text_of_eval : (files : Files) (net stim bytes : List ℕ) (raw : Raw) (s : Stimulus) → HoldsNetlist files net raw → HoldsStimulus files stim raw s → Permits files (eval net stim) (text bytes) → bytes ≡ eval_text (netlist_of raw) s
text_of_eval files net stim bytes raw s h k (evaluated other file raw2 s2 h2 k2) =
    let same : raw2 ≡ raw = same_netlist files net raw2 raw h2 h in
    let P : Raw → Type 0 = λ r. HoldsStimulus files stim r s2 in
    let again : s2 ≡ s = same_stimulus files stim raw s2 s (subst P same k2) k in
    ap (λ r. eval_text (netlist_of r) s2) same ∙ ap (eval_text (netlist_of raw)) again

taken_with-Some : (before bytes : List ℕ) → taken_with (Some before) bytes ≡ Some (before ++ bytes)
unfolding taken_with
taken_with-Some before bytes = refl

-- what a sink tells that it took is told once
same_bytes : (old new : Option (List ℕ)) (before a b : List ℕ) → Appends old new a → old ≡ Some before → new ≡ Some (before ++ b) → a ≡ b
same_bytes old new before a b h o n =
    let both : Some (before ++ a) ≡ Some (before ++ b) = sym (h.taken ∙ ap (λ t. taken_with t a) o ∙ taken_with-Some before a) ∙ n in
    let same : before ++ a ≡ before ++ b = cc in
    append_cancel_left before a b same

-- an evaluation that ends well
pub apart : {A : Type 0} (told : Option Files) (net stim : List ℕ) (raw : Raw) (order : List ℕ) (old new : Option (List ℕ)) (r : Result A Stop) → NetlistTold told net raw → IsLevelled (netlist_of raw) order → WritesOut told (Some (eval net stim)) (end_status r) old new
    → OnOk r (WritesApart told (Some (eval net stim)) old new)
apart told net stim raw order old new (Err e) netlist levelled w = tt
apart told net stim raw order old new (Ok x) netlist levelled w = λ files raw2 s before bytes t h k o n.
    let same : raw ≡ raw2 = same_netlist files net raw raw2 (netlist.holds files t) h in
    let Q : Raw → Type 0 = λ r. IsLevelled (netlist_of r) order in
    let told_bytes : w.bytes ≡ bytes = same_bytes old new before w.bytes bytes w.appended o n in
    let R : List ℕ → Type 0 = λ b. Permits files (eval net stim) (text b) in
    let permitted : Permits files (eval net stim) (text bytes) = subst R told_bytes (w.whole refl files t) in
    shows_apart (netlist_of raw2) order s bytes (wired raw2 h.passes.accepted) (subst Q same levelled) (text_of_eval files net stim bytes raw2 s h k permitted)

-- `check` and `augstim` show nothing of a run
pub check_apart : {A : Type 0} (told : Option Files) (net : List ℕ) (old new : Option (List ℕ)) (r : Result A Stop) → OnOk r (WritesApart told (Some (check net)) old new)
check_apart told net old new (Err e) = tt
check_apart told net old new (Ok x) = tt

pub augstim_apart : {A : Type 0} (told : Option Files) (net stim : List ℕ) (old new : Option (List ℕ)) (r : Result A Stop) → OnOk r (WritesApart told (Some (augstim net stim)) old new)
augstim_apart told net stim old new (Err e) = tt
augstim_apart told net stim old new (Ok x) = tt

-- a run that ends well
pub run_apart : {A : Type 0} (told : Option Files) (net stim sessions : List ℕ) (size : RunSize) (raw : Raw) (order : List ℕ) (s : Stimulus) (script : ScriptData) (t : ToldData) (written : List ℕ) (old new : Option (List ℕ)) (r : Result A Stop) → NetlistTold told net raw → IsLevelled (netlist_of raw) order → StimulusTold told stim raw s → ScriptTold told sessions raw script
    → IsRun (netlist_of raw) s script size t → written ≡ run_text_of script t → OnOk r (Appends old new written) → OnOk r (WritesApart told (Some (run net stim sessions size)) old new)
run_apart told net stim sessions size raw order s script t written old new (Err e) netlist levelled stimulus held is_run is ok = tt
run_apart told net stim sessions size raw order s script t written old new (Ok x) netlist levelled stimulus held is_run is ok = λ files raw2 s2 script2 before bytes f h k j o n.
    let held_net : HoldsNetlist files net raw = netlist.holds files f in
    let same_raw : raw ≡ raw2 = same_netlist files net raw raw2 held_net h in
    let P : Raw → Type 0 = λ r. HoldsStimulus files stim r s in
    let same_s : s ≡ s2 = same_stimulus files stim raw2 s s2 (subst P same_raw (stimulus.holds files f)) k in
    let Q : Raw → Type 0 = λ r. HoldsScript files sessions r script in
    let same_lines : script ≡ script2 = same_script files sessions raw2 script script2 (subst Q same_raw (held.holds files f)) j in
    let same_text : written ≡ bytes = same_bytes old new before written bytes ok o n in
    let shown : RunsApart (netlist_of raw) s script size written = runs_apart (netlist_of raw) order s script size t written (wired raw held_net.passes.accepted) levelled is_run is in
    let R : Raw → Type 0 = λ r. RunsApart (netlist_of r) s script size written in
    let S : Stimulus → Type 0 = λ u. RunsApart (netlist_of raw2) u script size written in
    let T : ScriptData → Type 0 = λ u. RunsApart (netlist_of raw2) s2 u size written in
    let U : List ℕ → Type 0 = RunsApart (netlist_of raw2) s2 script2 size in
    subst U same_text (subst T same_lines (subst S same_s (subst R same_raw shown)))
