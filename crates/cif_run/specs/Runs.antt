-- What a run of sessions tells, and its text.
use Rattle.std.specs.Prelude.{ℕ, ◌*◌, ◌<◌, ◌≤◌, ◌≡◌, List, [], ◌∷◌, ◌++◌, map, sum, length, get_or, codes}
use Rattle.std.specs.List.{flat_map}
use Rattle.std.specs.Fmt.{decimal}
use Rattle.cif_defs.specs.Text.{coded, line_end}
use Rattle.cif_defs.specs.Netlist.{Netlist}
use Rattle.cif_defs.specs.Stimulus.{Stimulus}
use Rattle.cif_script.specs.AnswerText.{answers_text}
use Rattle.cif_script.specs.Legal.{IsTranscript}
use Rattle.cif_script.specs.Scripts.{ScriptData}
use Rattle.cif_script.specs.declared.answer.Answer.{Answer}
use Rattle.cif_script.specs.declared.session.Line.{Line}
use Rattle.cif_script.specs.declared.session.SessionScript.{SessionScript}
use Rattle.cif_run.specs.declared.size.RunSize.{RunSize}

-- 1 to 32 workers, 1 to 64 parts, a window of 2 to 64 cycles
abbrev pub IsSize : RunSize → Type 0
IsSize size = (1 ≤ size.workers) × (size.workers ≤ 32) × (1 ≤ size.parts) × (size.parts ≤ 64) × (2 ≤ size.window) × (size.window ≤ 64)

-- the answers to the lines of each session, and the counts of the workers
pub record ToldData : Type 0 where
  pub transcripts : List (List Answer)
  pub counts : List ℕ

abbrev pub lines_at : List SessionScript → ℕ → List Line
lines_at sessions i = get_or (map (λ (s : SessionScript). s.lines) sessions) i []

abbrev pub transcript_at : List (List Answer) → ℕ → List Answer
transcript_at transcripts i = get_or transcripts i []

-- a legal transcript of each session, and a count of each worker, which add up to the cycles times the parts
pub record IsRun (n : Netlist) (s : Stimulus) (script : ScriptData) (size : RunSize) (told : ToldData) : Type 0 where
  pub as_many_transcripts : length told.transcripts ≡ length script.sessions
  pub legal : (i : ℕ) → i < length script.sessions → IsTranscript n s script.wires (lines_at script.sessions i) (transcript_at told.transcripts i)
  pub as_many_counts : length told.counts ≡ size.workers
  pub all_pieces : sum told.counts ≡ s.cycles * size.parts

-- ---- the text

-- `session NAME`, the lines of the session, and `end`
abbrev pub session_text : SessionScript → List Answer → List ℕ
session_text session answers = codes "session " ++ coded session.name ++ line_end ∷ answers_text answers ++ codes "end" ++ line_end ∷ []

abbrev pub sessions_text : List SessionScript → List (List Answer) → List ℕ
sessions_text [] transcripts = []
sessions_text (session ∷ sessions) [] = session_text session [] ++ sessions_text sessions []
sessions_text (session ∷ sessions) (answers ∷ transcripts) = session_text session answers ++ sessions_text sessions transcripts

-- `workers C0 C1` and on
abbrev pub workers_line : List ℕ → List ℕ
workers_line counts = codes "workers" ++ flat_map (λ c. codes " " ++ decimal c) counts ++ line_end ∷ []

-- each session's text, and the workers' counts
unfoldable pub run_text_of : ScriptData → ToldData → List ℕ
run_text_of script told = sessions_text script.sessions told.transcripts ++ workers_line told.counts
