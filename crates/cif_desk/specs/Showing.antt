-- What a text of `eval` or `run` tells of other stimuli.
use Rattle.std.specs.Prelude.{ℕ, ◌<◌, ◌≡◌, ⊤, List, [], ◌∷◌, ◌++◌, length, codes, Option, Some, None}
use Rattle.std.specs.List.{range_with_len, flat_map}
use Rattle.cif_defs.specs.Text.{coded, line_end}
use Rattle.cif_defs.specs.Netlist.{Netlist}
use Rattle.cif_defs.specs.Stimulus.{Stimulus, TaintedWord}
use Rattle.cif_defs.specs.Run.{value, src_word}
use Rattle.cif_defs.specs.Completions.{Completes}
use Rattle.cif_defs.specs.Agreement.{AgreesUpTo}
use Rattle.cif_defs.specs.EvalText.{pair_text, cycle_head, done_line}
use Rattle.cif_defs.specs.declared.nets.Wire.{Wire}
use Rattle.cif_defs.specs.Words.{Word}
use Rattle.cif_script.specs.Scripts.{ScriptData, wire_at}
use Rattle.cif_script.specs.declared.answer.Answer.{Answer}
use Rattle.cif_script.specs.declared.answer.Answer.TheVariants.{Cycle, Back, Past, Shown, Unpinned}
use Rattle.cif_script.specs.declared.session.Line.{Line}
use Rattle.cif_script.specs.declared.session.Line.TheVariants.{Show}
use Rattle.cif_run.specs.Runs.{ToldData, IsRun, run_text_of, lines_at, transcript_at}
use Rattle.cif_run.specs.declared.size.RunSize.{RunSize}

-- ---- evaluations

-- `NAME VALUE/TAINT`, with the word that is shown of a port
abbrev pub shown_line : (Wire → TaintedWord) → Wire → List ℕ
shown_line shown w = coded w.name ++ codes " " ++ pair_text (shown w).value (shown w).taint ++ line_end ∷ []

-- the text that shows a word of each output port in each cycle
abbrev pub text_showing : Netlist → ℕ → (ℕ → Wire → TaintedWord) → List ℕ
text_showing n cycles shown = flat_map (λ k. cycle_head k ++ flat_map (shown_line (shown k)) n.outputs) (range_with_len 0 cycles) ++ done_line cycles

-- the bytes show words such that every stimulus u that agrees with s outside its taint up to a cycle gives a port in that
-- cycle the bits that are shown, wherever they are shown untainted
pub record ShowsApart (n : Netlist) (s : Stimulus) (bytes : List ℕ) : Type 0 where
  pub shown : ℕ → Wire → TaintedWord
  pub is : bytes ≡ text_showing n s.cycles shown
  pub values_as_long : (k : ℕ) (w : Wire) → length (shown k w).value ≡ length w.bits
  pub taints_as_long : (k : ℕ) (w : Wire) → length (shown k w).taint ≡ length w.bits
  pub same : (u : Stimulus) (k : ℕ) (w : Wire) → AgreesUpTo n k s u → Completes (shown k w).value (shown k w).taint (src_word (value n u k) w.bits)

-- ---- runs

-- the cycle that an answer names is the session's own from then on; else the own one stays
abbrev pub own_after : Option ℕ → Answer → Option ℕ
own_after own (Cycle k) = Some k
own_after own (Back o) = own
own_after own (Past total) = own
own_after own (Shown name v t) = own
own_after own Unpinned = own

-- there is an own cycle, and every stimulus u that agrees with s outside its taint up to it gives the wire in that cycle the
-- bits that are shown, wherever they are shown untainted
pub record IsShownApart (n : Netlist) (s : Stimulus) (own : Option ℕ) (w : Wire) (v t : Word) : Type 0 where
  pub cycle : ℕ
  pub is_own : own ≡ Some cycle
  pub value_as_long : length v ≡ length w.bits
  pub taint_as_long : length t ≡ length w.bits
  pub same : (u : Stimulus) → AgreesUpTo n cycle s u → Completes v t (src_word (value n u cycle) w.bits)

-- so each answer that shows a wire
abbrev pub IsApart : Netlist → Stimulus → List Wire → Option ℕ → Line → Answer → Type 0
IsApart n s wires own (Show number) (Shown name v t) = IsShownApart n s own (wire_at wires number) v t
IsApart n s wires own line answer = ⊤

-- so the answers of a session, from an own cycle on
abbrev pub AnswersApart : Netlist → Stimulus → List Wire → Option ℕ → List Line → List Answer → Type 0
AnswersApart n s wires own (line ∷ lines) (answer ∷ answers) = IsApart n s wires own line answer × AnswersApart n s wires (own_after own answer) lines answers
AnswersApart n s wires own lines answers = ⊤

-- the bytes are the text of a run, of which each session's answers are so
pub record RunsApart (n : Netlist) (s : Stimulus) (script : ScriptData) (size : RunSize) (bytes : List ℕ) : Type 0 where
  pub told : ToldData
  pub is_run : IsRun n s script size told
  pub is : bytes ≡ run_text_of script told
  pub apart : (i : ℕ) → i < length script.sessions → AnswersApart n s script.wires None (lines_at script.sessions i) (transcript_at told.transcripts i)
