-- Legal transcripts, line by line.
use Rattle.std.specs.Prelude.{ℕ, ◌≡◌, ◌<◌, List, [], ◌∷◌, ◌++◌, Option, Some, None, refl}
use Rattle.std.proofs.Common.{arith, sym, ap, subst, ◌∙◌}
use Rattle.cif_defs.specs.Netlist.{Netlist}
use Rattle.cif_defs.specs.Stimulus.{Stimulus}
use Rattle.cif_defs.specs.declared.nets.Wire.{Wire}
use Rattle.cif_script.specs.Legal.{IsReached, following, At_steps, Next_steps, Newest_steps, Show_steps, Steps, Legal, IsTranscript, Rises}
use Rattle.cif_script.specs.Scripts.{wire_at}
use Rattle.cif_script.specs.declared.answer.Answer.{Answer}
use Rattle.cif_script.specs.declared.answer.Answer.TheVariants.{Cycle, Back, Past, Shown, Unpinned}
use Rattle.cif_script.specs.declared.session.Line.{Line}
use Rattle.cif_script.specs.declared.session.Line.TheVariants.{At, Next, Newest, Show}

-- one line more
pub legal_push : (n : Netlist) (s : Stimulus) (wires : List Wire) (own : Option ℕ) (lines : List Line) (answers : List Answer) (mid after : Option ℕ) (line : Line) (answer : Answer)
    → Legal n s wires own lines answers mid → Steps n s wires mid line answer after → Legal n s wires own (lines ++ line ∷ []) (answers ++ answer ∷ []) after
legal_push n s wires own [] [] mid after line answer h step = (after, subst (λ o. Steps n s wires o line answer after) h step, refl)
legal_push n s wires own [] (b ∷ answers) mid after line answer h step = absurd h
legal_push n s wires own (l ∷ lines) [] mid after line answer h step = absurd h
legal_push n s wires own (l ∷ lines) (b ∷ answers) mid after line answer h step = (h.0, h.1, legal_push n s wires h.0 lines answers mid after line answer h.2 step)

-- ---- cycles rise

goes : (total : ℕ) (own mid : Option ℕ) (c : ℕ) (answers : List Answer) → IsReached own c → c < total → mid ≡ Some c → Rises total mid answers → Rises total own (Cycle c ∷ answers)
goes total own mid c answers reached below is rest = (reached, below, subst (λ o. Rises total o answers) is rest)

stays : (total : ℕ) (own mid : Option ℕ) (answers : List Answer) → mid ≡ own → Rises total mid answers → Rises total own answers
stays total own mid answers is rest = subst (λ o. Rises total o answers) is rest

reach_following : (own : Option ℕ) → IsReached own (following own)
reach_following None = tt
reach_following (Some o) = omega arith

at_rises : (s : Stimulus) (own : Option ℕ) (k : ℕ) (answer : Answer) (mid : Option ℕ) (answers : List Answer) → At_steps s own k answer mid → Rises s.cycles mid answers → Rises s.cycles own (answer ∷ answers)
at_rises s own k (Cycle c) mid answers h rest =
    goes s.cycles own mid c answers (subst (λ j. IsReached own j) (sym h.2) h.0) (let e = h.2 in let b = h.1 in omega arith) (h.3 ∙ ap Some (sym h.2)) rest
at_rises s own k (Back o) mid answers h rest = stays s.cycles own mid answers h.2 rest
at_rises s own k (Past t) mid answers h rest = stays s.cycles own mid answers h.3 rest
at_rises s own k (Shown name v t) mid answers h rest = absurd h
at_rises s own k Unpinned mid answers h rest = absurd h

next_rises : (s : Stimulus) (own : Option ℕ) (answer : Answer) (mid : Option ℕ) (answers : List Answer) → Next_steps s own answer mid → Rises s.cycles mid answers → Rises s.cycles own (answer ∷ answers)
next_rises s own (Cycle c) mid answers h rest = goes s.cycles own mid c answers (subst (λ j. IsReached own j) (sym h.0) (reach_following own)) h.1 h.2 rest
next_rises s own (Past t) mid answers h rest = stays s.cycles own mid answers h.2 rest
next_rises s own (Back o) mid answers h rest = absurd h
next_rises s own (Shown name v t) mid answers h rest = absurd h
next_rises s own Unpinned mid answers h rest = absurd h

newest_rises : (s : Stimulus) (own : Option ℕ) (answer : Answer) (mid : Option ℕ) (answers : List Answer) → Newest_steps s own answer mid → Rises s.cycles mid answers → Rises s.cycles own (answer ∷ answers)
newest_rises s own (Cycle c) mid answers h rest = goes s.cycles own mid c answers h.0 h.1 h.2 rest
newest_rises s own (Back o) mid answers h rest = absurd h
newest_rises s own (Past t) mid answers h rest = absurd h
newest_rises s own (Shown name v t) mid answers h rest = absurd h
newest_rises s own Unpinned mid answers h rest = absurd h

show_rises : (n : Netlist) (s : Stimulus) (own : Option ℕ) (w : Wire) (answer : Answer) (mid : Option ℕ) (answers : List Answer) → Show_steps n s own w answer mid → Rises s.cycles mid answers → Rises s.cycles own (answer ∷ answers)
show_rises n s own w (Shown name v t) mid answers h rest = stays s.cycles own mid answers h.1 rest
show_rises n s own w Unpinned mid answers h rest = stays s.cycles own mid answers h.1 rest
show_rises n s own w (Cycle c) mid answers h rest = absurd h
show_rises n s own w (Back o) mid answers h rest = absurd h
show_rises n s own w (Past t) mid answers h rest = absurd h

step_rises : (n : Netlist) (s : Stimulus) (wires : List Wire) (own : Option ℕ) (line : Line) (answer : Answer) (mid : Option ℕ) (answers : List Answer) → Steps n s wires own line answer mid → Rises s.cycles mid answers → Rises s.cycles own (answer ∷ answers)
step_rises n s wires own (At k) answer mid answers h rest = at_rises s own k answer mid answers h rest
step_rises n s wires own Next answer mid answers h rest = next_rises s own answer mid answers h rest
step_rises n s wires own Newest answer mid answers h rest = newest_rises s own answer mid answers h rest
step_rises n s wires own (Show number) answer mid answers h rest = show_rises n s own (wire_at wires number) answer mid answers h rest

pub legal_rises : (n : Netlist) (s : Stimulus) (wires : List Wire) (own : Option ℕ) (lines : List Line) (answers : List Answer) (after : Option ℕ) → Legal n s wires own lines answers after → Rises s.cycles own answers
legal_rises n s wires own [] [] after h = tt
legal_rises n s wires own [] (answer ∷ answers) after h = absurd h
legal_rises n s wires own (line ∷ lines) [] after h = absurd h
legal_rises n s wires own (line ∷ lines) (answer ∷ answers) after h = step_rises n s wires own line answer h.0 answers h.1 (legal_rises n s wires h.0 lines answers after h.2)

pub transcript_rises : (n : Netlist) (s : Stimulus) (wires : List Wire) (lines : List Line) (answers : List Answer) → IsTranscript n s wires lines answers → Rises s.cycles None answers
transcript_rises n s wires lines answers h = legal_rises n s wires None lines answers h.0 h.1
