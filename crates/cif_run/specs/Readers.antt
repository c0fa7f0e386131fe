-- Sessions at their lines.
use Rattle.std.specs.Prelude.{ℕ, ◌≡◌, ◌<◌, ◌≤◌, ⊤, List, length, get_or, take, Option, Some, None, option_map, Result, Ok, Err}
use Rattle.std.specs.List.{All}
use Rattle.cif_defs.specs.Netlist.{Netlist}
use Rattle.cif_defs.specs.Stimulus.{Stimulus}
use Rattle.cif_defs.specs.declared.nets.Wire.{Wire}
use Rattle.cif_seq.specs.Cases.{CaseOf, net_of}
use Rattle.cif_hall.specs.Sessions.{SessionOf, TriesAt, TriesNewest, TriesNext}
use Rattle.cif_hall.specs.declared.told.Step.{Step}
use Rattle.cif_hall.specs.declared.told.Step.TheVariants.{Pinned, Again}
use Rattle.cif_hall.specs.declared.told.AtFault.{AtFault}
use Rattle.cif_hall.specs.declared.told.AtFault.TheVariants as fault
use Rattle.cif_script.specs.Legal.{IsTranscript, Legal, Steps}
use Rattle.cif_script.specs.Scripts.{ScriptData}
use Rattle.cif_script.specs.ShownWires.{IsWireOf}
use Rattle.cif_script.specs.declared.answer.Answer.{Answer}
use Rattle.cif_script.specs.declared.answer.Answer.TheVariants.{Cycle, Back, Past}
use Rattle.cif_script.specs.declared.session.Line.{Line}
use Rattle.cif_script.specs.declared.session.Line.TheVariants.{At, Next, Newest, Show}
use Rattle.cif_run.specs.Runs.{lines_at, transcript_at}

-- a session with what its lines were answered so far: its number, and the answers
pub record ReaderOf : Type 0 where
  pub number : ℕ
  pub answers : List Answer

abbrev pub number_of : ReaderOf → ℕ
number_of r = r.number

-- each has its place for its number
abbrev pub AreNumbered : List ReaderOf → Type 0
AreNumbered rs = (i : ℕ) (d : ReaderOf) → i < length rs → (get_or rs i d).number ≡ i

-- the answers of a session are legal ones of its first lines, and leave this own cycle
pub record IsReading (c : CaseOf) (script : ScriptData) (number : ℕ) (pin : Option ℕ) (answers : List Answer) : Type 0 where
  pub listed : number < length script.sessions
  pub wires : All (IsWireOf c.raw) script.wires
  pub within : length answers ≤ length (lines_at script.sessions number)
  pub legal : Legal (net_of c) c.stimulus script.wires None (take (length answers) (lines_at script.sessions number)) answers pin

-- the transcript of each session is a legal one of its lines
abbrev pub AllLegal : Netlist → Stimulus → ScriptData → List (List Answer) → Type 0
AllLegal n s script transcripts = (i : ℕ) → i < length transcripts → IsTranscript n s script.wires (lines_at script.sessions i) (transcript_at transcripts i)

-- ---- one line

-- it goes to a cycle, and shows nothing
abbrev pub IsGoing : Line → Type 0
IsGoing (At k) = ⊤
IsGoing Next = ⊤
IsGoing Newest = ⊤
IsGoing (Show number) = ⊥

-- what a line that goes to a cycle does, for a total of cycles: session before, what it is told, session after
abbrev pub Goes : ℕ → Line → SessionOf → Result Step AtFault → SessionOf → Type 0
Goes total (At k) x told y = TriesAt total x k told y
Goes total Next x told y = TriesNext total x told y
Goes total Newest x told y = TriesNewest total x told y
Goes total (Show number) x told y = ⊥

-- what such a line is answered, if anything, with this own cycle afterwards
abbrev pub IsReply : Option ℕ → Result Step AtFault → Option Answer → Type 0
IsReply own (Ok Pinned) reply = reply ≡ option_map Cycle own
IsReply own (Ok (Again done)) reply = reply ≡ None
IsReply own (Err (fault.Back earlier)) reply = reply ≡ Some (Back earlier)
IsReply own (Err (fault.Past total)) reply = reply ≡ Some (Past total)
IsReply own (Err fault.Memory) reply = ⊥

-- a line is answered by a step of its own, or not yet
abbrev pub Replies : Netlist → Stimulus → List Wire → Option ℕ → Line → Option Answer → Option ℕ → Type 0
Replies n s wires own line None after = after ≡ own
Replies n s wires own line (Some answer) after = Steps n s wires own line answer after
