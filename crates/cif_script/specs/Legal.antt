-- Legal transcripts: what the lines of a session may print, for a netlist and a stimulus.
use Rattle.std.specs.Prelude.{ℕ, suc, ◌≡◌, ◌<◌, ◌≤◌, ⊤, List, [], ◌∷◌, Option, Some, None, MatchOption}
use Rattle.cif_defs.specs.Netlist.{Netlist}
use Rattle.cif_defs.specs.Run.{value, src_word}
use Rattle.cif_defs.specs.Stimulus.{Stimulus}
use Rattle.cif_defs.specs.TaintRun.{taint, taint_word}
use Rattle.cif_defs.specs.Words.{Word}
use Rattle.cif_defs.specs.declared.nets.Wire.{Wire}
use Rattle.cif_script.specs.Scripts.{wire_at}
use Rattle.cif_script.specs.declared.answer.Answer.{Answer}
use Rattle.cif_script.specs.declared.answer.Answer.TheVariants.{Cycle, Back, Past, Shown, Unpinned}
use Rattle.cif_script.specs.declared.session.Line.{Line}
use Rattle.cif_script.specs.declared.session.Line.TheVariants.{At, Next, Newest, Show}

-- ---- the own cycle of a session, which it has none of at first

-- cycle k isn't below the own one
abbrev pub IsReached : Option ℕ → ℕ → Type 0
IsReached own k = MatchOption own ⊤ (λ o. o ≤ k)

-- the cycle after the own one, or 0
abbrev pub following : Option ℕ → ℕ
following None = 0
following (Some own) = suc own

-- ---- what each line may print, and the own cycle afterwards

-- `at K`
abbrev pub At_steps : Stimulus → Option ℕ → ℕ → Answer → Option ℕ → Type 0
At_steps s own k (Back o) after = (own ≡ Some o) × (k < o) × (after ≡ own)
At_steps s own k (Past total) after = IsReached own k × (s.cycles ≤ k) × (total ≡ s.cycles) × (after ≡ own)
At_steps s own k (Cycle c) after = IsReached own k × (k < s.cycles) × (c ≡ k) × (after ≡ Some k)
At_steps s own k (Shown name v t) after = ⊥
At_steps s own k Unpinned after = ⊥

-- `next`
abbrev pub Next_steps : Stimulus → Option ℕ → Answer → Option ℕ → Type 0
Next_steps s own (Past total) after = (following own ≡ s.cycles) × (total ≡ s.cycles) × (after ≡ own)
Next_steps s own (Cycle c) after = (c ≡ following own) × (c < s.cycles) × (after ≡ Some c)
Next_steps s own (Back o) after = ⊥
Next_steps s own (Shown name v t) after = ⊥
Next_steps s own Unpinned after = ⊥

-- `newest`
abbrev pub Newest_steps : Stimulus → Option ℕ → Answer → Option ℕ → Type 0
Newest_steps s own (Cycle c) after = IsReached own c × (c < s.cycles) × (after ≡ Some c)
Newest_steps s own (Back o) after = ⊥
Newest_steps s own (Past total) after = ⊥
Newest_steps s own (Shown name v t) after = ⊥
Newest_steps s own Unpinned after = ⊥

-- the name of a wire, and the values and taints of its bits at cycle k
pub record IsShownAt (n : Netlist) (s : Stimulus) (k : ℕ) (w : Wire) (name : List ℕ) (v t : Word) : Type 0 where
  pub same_name : name ≡ w.name
  pub values : v ≡ src_word (value n s k) w.bits
  pub taints : t ≡ taint_word (taint n s k) w.bits

-- `show NAME`
abbrev pub Show_steps : Netlist → Stimulus → Option ℕ → Wire → Answer → Option ℕ → Type 0
Show_steps n s own w (Shown name v t) after = MatchOption own ⊥ (λ k. IsShownAt n s k w name v t) × (after ≡ own)
Show_steps n s own w Unpinned after = (own ≡ None) × (after ≡ own)
Show_steps n s own w (Cycle c) after = ⊥
Show_steps n s own w (Back o) after = ⊥
Show_steps n s own w (Past total) after = ⊥

-- a line, where lines show these wires by number
abbrev pub Steps : Netlist → Stimulus → List Wire → Option ℕ → Line → Answer → Option ℕ → Type 0
Steps n s wires own (At k) answer after = At_steps s own k answer after
Steps n s wires own Next answer after = Next_steps s own answer after
Steps n s wires own Newest answer after = Newest_steps s own answer after
Steps n s wires own (Show number) answer after = Show_steps n s own (wire_at wires number) answer after

-- ---- lines one after another

-- lines give answers, one each, from an own cycle on; and the own cycle afterwards
abbrev pub Legal : Netlist → Stimulus → List Wire → Option ℕ → List Line → List Answer → Option ℕ → Type 0
Legal n s wires own [] [] after = after ≡ own
Legal n s wires own [] (answer ∷ answers) after = ⊥
Legal n s wires own (line ∷ lines) [] after = ⊥
Legal n s wires own (line ∷ lines) (answer ∷ answers) after = (mid : Option ℕ) × Steps n s wires own line answer mid × Legal n s wires mid lines answers after

-- the transcript of a session
abbrev pub IsTranscript : Netlist → Stimulus → List Wire → List Line → List Answer → Type 0
IsTranscript n s wires lines answers = (after : Option ℕ) × Legal n s wires None lines answers after

-- ---- what holds of each transcript

-- each cycle that is printed is below the total, and not below the own one or one that is printed before it
abbrev pub Rises : ℕ → Option ℕ → List Answer → Type 0
Rises total own [] = ⊤
Rises total own (Cycle c ∷ answers) = IsReached own c × (c < total) × Rises total (Some c) answers
Rises total own (Back o ∷ answers) = Rises total own answers
Rises total own (Past t ∷ answers) = Rises total own answers
Rises total own (Shown name v t ∷ answers) = Rises total own answers
Rises total own (Unpinned ∷ answers) = Rises total own answers
