-- What the answers of a run tell of other stimuli.
use Rattle.std.specs.Prelude.{ℕ, ◌≡◌, List, [], ◌∷◌, length, Option, Some, None, refl}
use Rattle.std.proofs.Common.{ap, sym, subst, ◌∙◌}
use Rattle.cif_defs.specs.Words.{Word}
use Rattle.cif_defs.specs.Netlist.{Netlist, IsWired}
use Rattle.cif_defs.specs.Stimulus.{Stimulus}
use Rattle.cif_defs.specs.Loop.{IsLevelled}
use Rattle.cif_defs.specs.Run.{value, src_word}
use Rattle.cif_defs.specs.TaintRun.{taint}
use Rattle.cif_defs.specs.Completions.{Completes}
use Rattle.cif_defs.specs.declared.nets.Wire.{Wire}
use Rattle.cif_defs.proofs.Agree.{src_complete}
use Rattle.cif_defs.proofs.Noninterference.{noninterference}
use Rattle.cif_script.specs.Scripts.{ScriptData, wire_at}
use Rattle.cif_script.specs.Legal.{IsShownAt, Steps, Legal}
use Rattle.cif_script.specs.declared.answer.Answer.{Answer}
use Rattle.cif_script.specs.declared.answer.Answer.TheVariants.{Cycle, Back, Past, Shown, Unpinned}
use Rattle.cif_script.specs.declared.session.Line.{Line}
use Rattle.cif_script.specs.declared.session.Line.TheVariants.{At, Next, Newest, Show}
use Rattle.cif_run.specs.Runs.{ToldData, IsRun, run_text_of, lines_at, transcript_at}
use Rattle.cif_run.specs.declared.size.RunSize.{RunSize}
use Rattle.cif_desk.specs.Showing.{own_after, IsShownApart, IsApart, AnswersApart, RunsApart}
use Rattle.cif_desk.proofs.ShownBits.{length-src_word, length-taint_word}

-- the own cycle after a line is the one that its answer leaves
step_own : (n : Netlist) (s : Stimulus) (wires : List Wire) (own : Option ℕ) (line : Line) (answer : Answer) (after : Option ℕ) → Steps n s wires own line answer after → after ≡ own_after own answer
step_own n s wires own (At k) (Cycle c) after h = h.3 ∙ ap (λ j. Some j) (sym h.2)
step_own n s wires own (At k) (Back o) after h = h.2
step_own n s wires own (At k) (Past total) after h = h.3
step_own n s wires own (At k) (Shown name v t) after h = absurd h
step_own n s wires own (At k) Unpinned after h = absurd h
step_own n s wires own Next (Cycle c) after h = h.2
step_own n s wires own Next (Back o) after h = absurd h
step_own n s wires own Next (Past total) after h = h.2
step_own n s wires own Next (Shown name v t) after h = absurd h
step_own n s wires own Next Unpinned after h = absurd h
step_own n s wires own Newest (Cycle c) after h = h.2
step_own n s wires own Newest (Back o) after h = absurd h
step_own n s wires own Newest (Past total) after h = absurd h
step_own n s wires own Newest (Shown name v t) after h = absurd h
step_own n s wires own Newest Unpinned after h = absurd h
step_own n s wires own (Show number) (Cycle c) after h = absurd h
step_own n s wires own (Show number) (Back o) after h = absurd h
step_own n s wires own (Show number) (Past total) after h = absurd h
step_own n s wires own (Show number) (Shown name v t) after h = h.1
step_own n s wires own (Show number) Unpinned after h = h.1

module _ (n : Netlist) (order : List ℕ) (s : Stimulus) (is_wired : IsWired n) (levelled : IsLevelled n order) where
  shown_apart : (k : ℕ) (w : Wire) (name : List ℕ) (v t : Word) → IsShownAt n s k w name v t → IsShownApart n s (Some k) w v t
  shown_apart k w name v t h = record {
    cycle = k;
    is_own = refl;
    value_as_long = ap length h.values ∙ length-src_word (value n s k) w.bits;
    taint_as_long = ap length h.taints ∙ length-taint_word (taint n s k) w.bits;
    same = λ u agrees.
        let P : Word → Type 0 = λ x. Completes x t (src_word (value n u k) w.bits) in
        let Q : Word → Type 0 = λ x. Completes (src_word (value n s k) w.bits) x (src_word (value n u k) w.bits) in
        subst P (sym h.values) (subst Q (sym h.taints) (src_complete (value n s k) (value n u k) (taint n s k) w.bits (λ j b is clear. noninterference n order s u k is_wired levelled agrees b clear)));
  }

  step_apart : (wires : List Wire) (own : Option ℕ) (line : Line) (answer : Answer) (after : Option ℕ) → Steps n s wires own line answer after → IsApart n s wires own line answer
  step_apart wires (Some k) (Show number) (Shown name v t) after h = shown_apart k (wire_at wires number) name v t h.0
  step_apart wires None (Show number) (Shown name v t) after h = absurd h.0
  step_apart wires own (Show number) (Cycle c) after h = tt
  step_apart wires own (Show number) (Back o) after h = tt
  step_apart wires own (Show number) (Past total) after h = tt
  step_apart wires own (Show number) Unpinned after h = tt
  step_apart wires own (At k) answer after h = tt
  step_apart wires own Next answer after h = tt
  step_apart wires own Newest answer after h = tt

  answers_apart : (wires : List Wire) (own : Option ℕ) (lines : List Line) (answers : List Answer) (after : Option ℕ) → Legal n s wires own lines answers after → AnswersApart n s wires own lines answers
  answers_apart wires own [] [] after h = tt
  answers_apart wires own [] (answer ∷ answers) after h = tt
  answers_apart wires own (line ∷ lines) [] after h = tt
  answers_apart wires own (line ∷ lines) (answer ∷ answers) after h =
      let P : Option ℕ → Type 0 = λ o. AnswersApart n s wires o lines answers in
      (step_apart wires own line answer h.0 h.1, subst P (step_own n s wires own line answer h.0 h.1) (answers_apart wires h.0 lines answers after h.2))

  -- what a run tells shows no more of tainted bits than it says
  pub runs_apart_of : (script : ScriptData) (size : RunSize) (told : ToldData) (bytes : List ℕ) → IsRun n s script size told → bytes ≡ run_text_of script told → RunsApart n s script size bytes
  runs_apart_of script size told bytes is_run e = record {
    told = told;
    is_run = is_run;
    is = e;
    apart = λ i below.
        let transcript = is_run.legal i below in
        answers_apart script.wires None (lines_at script.sessions i) (transcript_at told.transcripts i) transcript.0 transcript.1;
  }

pub runs_apart : (n : Netlist) (order : List ℕ) (s : Stimulus) (script : ScriptData) (size : RunSize) (told : ToldData) (bytes : List ℕ) → IsWired n → IsLevelled n order → IsRun n s script size told → bytes ≡ run_text_of script told → RunsApart n s script size bytes
runs_apart n order s script size told bytes is_wired levelled is_run e = runs_apart_of n order s is_wired levelled script size told bytes is_run e
