-- Lines and their answers.
use Rattle.std.specs.Prelude.{ℕ, suc, ◌+◌, ◌-◌, ◌≡◌, ◌<◌, List, [], ◌∷◌, ◌++◌, length, get_or, take, Option, Some, None, option_map, Bool, true, false, Result, Ok, Err, IfOk, OnErr, refl}
use Rattle.std.specs.List.{All, list_all}
use Rattle.std.proofs.Common.{arith, sym, ap, subst, ◌∙◌}
use Rattle.std.proofs.lemmas.List.{take_more, take_all, length-append}
use Rattle.std.proofs.lemmas.List.Folds.{list_all_at}
use Rattle.cif_defs.specs.Netlist.{Netlist}
use Rattle.cif_defs.specs.Stimulus.{Stimulus}
use Rattle.cif_defs.specs.declared.nets.Wire.{Wire}
use Rattle.cif_seq.specs.Cases.{CaseOf, net_of}
use Rattle.cif_hall.specs.Sessions.{SessionOf, TriesAt, TriesNewest, TriesNext, pinned, starving}
use Rattle.cif_hall.specs.declared.told.Step.{Step}
use Rattle.cif_hall.specs.declared.told.Step.TheVariants.{Pinned, Again}
use Rattle.cif_hall.specs.declared.told.AtFault.{AtFault}
use Rattle.cif_hall.specs.declared.told.AtFault.TheVariants as fault
use Rattle.cif_script.specs.Legal.{following, IsTranscript, Legal}
use Rattle.cif_script.specs.Scripts.{ScriptData, is_inside, is_line_inside}
use Rattle.cif_script.specs.ShownWires.{IsWireOf}
use Rattle.cif_script.specs.declared.answer.Answer.{Answer}
use Rattle.cif_script.specs.declared.answer.Answer.TheVariants.{Cycle}
use Rattle.cif_script.specs.declared.session.Line.{Line}
use Rattle.cif_script.specs.declared.session.Line.TheVariants.{At, Next, Newest, Show}
use Rattle.cif_script.specs.declared.session.SessionScript.{SessionScript}
use Rattle.cif_script.proofs.Transcripts.{legal_push}
use Rattle.cif_kept.specs.Pins.{next_of}
use Rattle.cif_run.specs.Readers.{Goes, IsReading, IsReply, Replies}
use Rattle.cif_run.specs.Runs.{lines_at}

-- ---- one line

following_is : (own : Option ℕ) → next_of own ≡ following own
following_is None = refl
following_is (Some o) = (let e : o + 1 ≡ suc o = omega arith in e)

pin_is : (x y : SessionOf) (k : ℕ) → y ≡ pinned x k → y.pin ≡ Some k
pin_is x y k e = ap (λ (z : SessionOf). z.pin) e

same_pin : (x y : SessionOf) → y ≡ x → y.pin ≡ x.pin
same_pin x y e = ap (λ (z : SessionOf). z.pin) e

-- an answer that names the own cycle
cycle_is : (own : Option ℕ) (k : ℕ) (reply : Option Answer) → own ≡ Some k → reply ≡ option_map Cycle own → reply ≡ Some (Cycle k)
cycle_is own k reply e r = r ∙ ap (option_map Cycle) e

-- a reply that is known
given_reply : (n : Netlist) (s : Stimulus) (wires : List Wire) (own : Option ℕ) (line : Line) (reply given : Option Answer) (after : Option ℕ) → reply ≡ given → Replies n s wires own line given after → Replies n s wires own line reply after
given_reply n s wires own line reply given after e h = subst (λ r. Replies n s wires own line r after) (sym e) h

at_replies : (n : Netlist) (s : Stimulus) (wires : List Wire) (k : ℕ) (x y : SessionOf) (told : Result Step AtFault) (reply : Option Answer)
    → TriesAt s.cycles x k told y → IsReply y.pin told reply → Replies n s wires x.pin (At k) reply y.pin
at_replies n s wires k x y (Ok Pinned) reply h r =
    given_reply n s wires x.pin (At k) reply _ y.pin (cycle_is y.pin k reply (pin_is x y k h.3) r) (h.0, h.1, refl, pin_is x y k h.3)
at_replies n s wires k x y (Ok (Again done)) reply h r = given_reply n s wires x.pin (At k) reply _ y.pin r (same_pin x y h.4)
at_replies n s wires k x y (Err (fault.Back own)) reply h r = given_reply n s wires x.pin (At k) reply _ y.pin r (h.0, h.1, same_pin x y h.2)
at_replies n s wires k x y (Err (fault.Past total)) reply h r = given_reply n s wires x.pin (At k) reply _ y.pin r (h.0, h.2, h.1, same_pin x y h.3)
at_replies n s wires k x y (Err fault.Memory) reply h r = absurd r

next_replies : (n : Netlist) (s : Stimulus) (wires : List Wire) (x y : SessionOf) (told : Result Step AtFault) (reply : Option Answer)
    → 0 < s.cycles → TriesNext s.cycles x told y → IsReply y.pin told reply → Replies n s wires x.pin Next reply y.pin
next_replies n s wires x y (Ok Pinned) reply some h r =
    given_reply n s wires x.pin Next reply _ y.pin (cycle_is y.pin (next_of x.pin) reply (pin_is x y _ h.2) r) (following_is x.pin, h.0, pin_is x y _ h.2)
next_replies n s wires x y (Ok (Again done)) reply some h r = given_reply n s wires x.pin Next reply _ y.pin r (same_pin x y h.3)
next_replies n s wires x y (Err (fault.Back own)) reply some h r = absurd h
next_replies n s wires x y (Err (fault.Past total)) reply some h r =
    let last : following x.pin ≡ s.cycles = ap following h.1 ∙ (let e : suc (s.cycles - 1) ≡ s.cycles = omega (arith, some) in e) in
    given_reply n s wires x.pin Next reply _ y.pin r (last, h.0, same_pin x y h.2)
next_replies n s wires x y (Err fault.Memory) reply some h r = absurd r

newest_replies : (n : Netlist) (s : Stimulus) (wires : List Wire) (x y : SessionOf) (told : Result Step AtFault) (reply : Option Answer)
    → TriesNewest s.cycles x told y → IsReply y.pin told reply → Replies n s wires x.pin Newest reply y.pin
newest_replies n s wires x y (Ok Pinned) reply h r =
    given_reply n s wires x.pin Newest reply _ y.pin (cycle_is y.pin h.0 reply (pin_is x y _ h.3) r) (h.1, h.2, pin_is x y _ h.3)
newest_replies n s wires x y (Ok (Again done)) reply h r = given_reply n s wires x.pin Newest reply _ y.pin r (same_pin x y h.2)
newest_replies n s wires x y (Err (fault.Back own)) reply h r = absurd h
newest_replies n s wires x y (Err (fault.Past total)) reply h r = absurd h
newest_replies n s wires x y (Err fault.Memory) reply h r = absurd r

-- what a line is answered that goes to a cycle
pub replies : (n : Netlist) (s : Stimulus) (wires : List Wire) (line : Line) (x y : SessionOf) (told : Result Step AtFault) (reply : Option Answer)
    → 0 < s.cycles → Goes s.cycles line x told y → IsReply y.pin told reply → Replies n s wires x.pin line reply y.pin
replies n s wires (At k) x y told reply some h r = at_replies n s wires k x y told reply h r
replies n s wires Next x y told reply some h r = next_replies n s wires x y told reply some h r
replies n s wires Newest x y told reply some h r = newest_replies n s wires x y told reply h r
replies n s wires (Show number) x y told reply some h r = absurd h

-- where there is an answer at all
pub replies_if : {E : Type 0} (n : Netlist) (s : Stimulus) (wires : List Wire) (line : Line) (x y : SessionOf) (told : Result Step AtFault) (reply : Result (Option Answer) E)
    → 0 < s.cycles → Goes s.cycles line x told y → IfOk reply (IsReply y.pin told) → IfOk reply (λ r. Replies n s wires x.pin line r y.pin)
replies_if n s wires line x y told (Ok reply) some h r = replies n s wires line x y told reply some h r
replies_if n s wires line x y told (Err e) some h r = tt

same_number : (x y : SessionOf) → y ≡ x → y.number ≡ x.number
same_number x y e = ap (λ (z : SessionOf). z.number) e

pinned_number : (x y : SessionOf) (k : ℕ) → y ≡ pinned x k → y.number ≡ x.number
pinned_number x y k e = ap (λ (z : SessionOf). z.number) e

starved_number : (x y : SessionOf) → y ≡ starving x → y.number ≡ x.number
starved_number x y e = ap (λ (z : SessionOf). z.number) e

-- a session keeps its number
pub goes_number : (total : ℕ) (line : Line) (x y : SessionOf) (told : Result Step AtFault) → Goes total line x told y → y.number ≡ x.number
goes_number total (At k) x y (Ok Pinned) h = pinned_number x y k h.3
goes_number total (At k) x y (Ok (Again done)) h = same_number x y h.4
goes_number total (At k) x y (Err (fault.Back own)) h = same_number x y h.2
goes_number total (At k) x y (Err (fault.Past n)) h = same_number x y h.3
goes_number total (At k) x y (Err fault.Memory) h = starved_number x y h.2
goes_number total Next x y (Ok Pinned) h = pinned_number x y _ h.2
goes_number total Next x y (Ok (Again done)) h = same_number x y h.3
goes_number total Next x y (Err (fault.Back own)) h = absurd h
goes_number total Next x y (Err (fault.Past n)) h = same_number x y h.2
goes_number total Next x y (Err fault.Memory) h = starved_number x y h.1
goes_number total Newest x y (Ok Pinned) h = pinned_number x y _ h.3
goes_number total Newest x y (Ok (Again done)) h = same_number x y h.2
goes_number total Newest x y (Err (fault.Back own)) h = absurd h
goes_number total Newest x y (Err (fault.Past n)) h = absurd h
goes_number total Newest x y (Err fault.Memory) h = starved_number x y h
goes_number total (Show number) x y told h = absurd h

starved_pin : (x y : SessionOf) → y ≡ starving x → y.pin ≡ x.pin
starved_pin x y e = ap (λ (z : SessionOf). z.pin) e

-- and its own cycle, where it finds no memory
memory_stays : (total : ℕ) (line : Line) (x y : SessionOf) → Goes total line x (Err fault.Memory) y → y.pin ≡ x.pin
memory_stays total (At k) x y h = starved_pin x y h.2
memory_stays total Next x y h = starved_pin x y h.1
memory_stays total Newest x y h = starved_pin x y h
memory_stays total (Show number) x y h = absurd h

pub stays_if : {A E : Type 0} (total : ℕ) (line : Line) (x y : SessionOf) (told : Result Step AtFault) (reply : Result A E)
    → Goes total line x told y → OnErr reply (told ≡ Err fault.Memory) → OnErr reply (y.pin ≡ x.pin)
stays_if total line x y told (Ok reply) h m = tt
stays_if total line x y told (Err e) h m = memory_stays total line x y (subst (λ t. Goes total line x t y) m h)

-- ---- what lines show

pub at_each : {X : Type 0} (p : X → Bool) (xs : List X) (i : ℕ) (d : X) → i < length xs → list_all p xs ≡ true → p (get_or xs i d) ≡ true
at_each p xs i d low all = by_value (p (get_or xs i d)) refl where
  by_value : (b : Bool) → p (get_or xs i d) ≡ b → b ≡ true
  by_value true e = refl
  by_value false e = (let no = list_all_at p xs i d low e in absurd (cc))

pub inside : (count : ℕ) (sessions : List SessionScript) (i : ℕ) (d : SessionScript) → i < length sessions → list_all (is_inside count) sessions ≡ true → list_all (is_line_inside count) (get_or sessions i d).lines ≡ true
inside count sessions i d low all = at_each (is_inside count) sessions i d low all

-- ---- lines one after another

-- one line more
reads_on : (c : CaseOf) (script : ScriptData) (number : ℕ) (before after : Option ℕ) (answers more : List Answer) (d : Line) (answer : Answer)
    → IsReading c script number before answers → length answers < length (lines_at script.sessions number) → more ≡ answers ++ answer ∷ []
    → Replies (net_of c) c.stimulus script.wires before (get_or (lines_at script.sessions number) (length answers) d) (Some answer) after → IsReading c script number after more
reads_on c script number before after answers more d answer h low longer step =
    let lines = lines_at script.sessions number in
    let line = get_or lines (length answers) d in
    let count : length more ≡ length answers + 1 = ap length longer ∙ length-append answers (answer ∷ []) in
    let taken : take (length more) lines ≡ take (length answers) lines ++ line ∷ [] = ap (λ k. take k lines) count ∙ take_more lines (length answers) d low in
    let pushed = legal_push (net_of c) c.stimulus script.wires None (take (length answers) lines) answers before after line answer h.legal step in
    record {
      listed = h.listed;
      wires = h.wires;
      within = omega (arith, count, low);
      legal = subst (λ (z : List Line × List Answer). Legal (net_of c) c.stimulus script.wires None z.0 z.1 after) (λ j. (sym taken j, sym longer j)) pushed;
    }

pub reads_more : (c : CaseOf) (script now : ScriptData) (number same : ℕ) (before after : Option ℕ) (answers more : List Answer) (lines : List Line) (next : ℕ) (d : Line) (reply : Option Answer) (answer : Answer)
    → now ≡ script → IsReading c script number before answers → same ≡ number → lines ≡ lines_at script.sessions number → next ≡ length answers → next < length lines
    → reply ≡ Some answer → more ≡ answers ++ answer ∷ [] → Replies (net_of c) c.stimulus now.wires before (get_or lines next d) reply after → IsReading c script same after more
reads_more c script now number same before after answers more lines next d reply answer ours h kept are place low is longer step =
    let P : ScriptData → Option Answer → List Line → ℕ → Type 0 = λ z r ls k. Replies (net_of c) c.stimulus z.wires before (get_or ls k d) r after in
    let here : P script (Some answer) (lines_at script.sessions number) (length answers) = subst (λ k. P script (Some answer) (lines_at script.sessions number) k) place
    (subst (λ ls. P script (Some answer) ls next) are (subst (λ r. P script r lines next) is (subst (λ z. P z reply lines next) ours step))) in
    let low_there : length answers < length (lines_at script.sessions number) = subst (λ k. k < length (lines_at script.sessions number)) place (subst (λ (ls : List Line). next < length ls) are low) in
    subst (λ k. IsReading c script k after more) (sym kept) (reads_on c script number before after answers more d answer h low_there longer here)

-- no line is answered, and none was gone to
pub reads_same : (c : CaseOf) (script : ScriptData) (number : ℕ) (before after : Option ℕ) (answers : List Answer)
    → IsReading c script number before answers → after ≡ before → IsReading c script number after answers
reads_same c script number before after answers h same = subst (λ own. IsReading c script number own answers) (sym same) h

-- all lines are answered
pub whole : (c : CaseOf) (script : ScriptData) (number : ℕ) (own : Option ℕ) (answers : List Answer)
    → IsReading c script number own answers → length answers ≡ length (lines_at script.sessions number) → IsTranscript (net_of c) c.stimulus script.wires (lines_at script.sessions number) answers
whole c script number own answers h all =
    let lines = lines_at script.sessions number in
    (own, subst (λ (l : List Line). Legal (net_of c) c.stimulus script.wires None l answers own) (ap (λ k. take k lines) all ∙ take_all (length lines) lines (omega arith)) h.legal)

-- no line is answered yet
pub reads_nothing : (c : CaseOf) (script : ScriptData) (number : ℕ) → number < length script.sessions → All (IsWireOf c.raw) script.wires → IsReading c script number None []
reads_nothing c script number listed wires = record { listed = listed; wires = wires; within = omega arith; legal = refl }
