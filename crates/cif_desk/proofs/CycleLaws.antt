-- Texts of cycles, one after another.
use Rattle.std.specs.Prelude.{ℕ, zero, suc, ◌+◌, ◌<◌, ◌≤◌, ◌≡◌, List, ◌++◌, Option, refl}
use Rattle.std.specs.List.{range_with_len, flat_map}
use Rattle.std.proofs.Common.{arith, ap, sym, subst, ◌∙◌, append_assoc, append-nil}
use Rattle.cif_io.specs.Outside.{Rose, Appends, AppendsPrefix}
use Rattle.cif_io.proofs.OutsideLaws.{Appends-same, Appends-join, AppendsPrefix-front, AppendsPrefix-join, AppendsPrefix-more, AppendsPrefix-same}
use Rattle.cif_defs.specs.Netlist.{Netlist}
use Rattle.cif_defs.specs.Stimulus.{Stimulus}
use Rattle.cif_defs.specs.EvalText.{cycle_text, done_line, eval_text}
use Rattle.cif_desk.specs.Stops.{StopsWriting}
use Rattle.cif_seq.specs.Cases.{CaseOf, FrameOf, net_of, frame_of}
use Rattle.cif_desk.specs.declared.stop.Stop.{Stop}
use Rattle.cif_desk.specs.declared.stop.Stop.TheVariants.{Usage, Refused, Unread, Unwritten, NoMemory}

-- one more number
flat_map_range_more : (f : ℕ → List ℕ) (a n : ℕ) → flat_map f (range_with_len a (suc n)) ≡ flat_map f (range_with_len a n) ++ f (a + n)
flat_map_range_more f a zero = let e : a ≡ a + 0 = omega arith in append-nil (f a) ∙ ap f e
flat_map_range_more f a (suc n) =
    let rest = flat_map_range_more f (a + 1) n in
    let e : a + 1 + n ≡ a + suc n = omega arith in
    ap (λ (t : List ℕ). f a ++ t) (rest ∙ ap (λ k. flat_map f (range_with_len (a + 1) n) ++ f k) e)
    ∙ sym (append_assoc (f a) (flat_map f (range_with_len (a + 1) n)) (f (a + suc n)))

-- the first numbers come first
flat_map_range_front : (f : ℕ → List ℕ) (a k n : ℕ) → k ≤ n → (rest : List ℕ) × (flat_map f (range_with_len a n) ≡ flat_map f (range_with_len a k) ++ rest)
flat_map_range_front f a zero n h = (flat_map f (range_with_len a n), refl)
flat_map_range_front f a (suc k) zero h = absurd (omega arith)
flat_map_range_front f a (suc k) (suc n) h =
    let rest = flat_map_range_front f (a + 1) k n (omega arith) in
    (rest.0, ap (λ (t : List ℕ). f a ++ t) rest.1 ∙ sym (append_assoc (f a) (flat_map f (range_with_len (a + 1) k)) rest.0))

-- the text of the first cycles
abbrev pub first_cycles : Netlist → Stimulus → ℕ → List ℕ
first_cycles n s k = flat_map (cycle_text n s) (range_with_len 0 k)

pub cycles_front : (n : Netlist) (s : Stimulus) (k : ℕ) → k ≤ s.cycles → (rest : List ℕ) × (first_cycles n s k ++ rest ≡ eval_text n s)
unfolding eval_text
cycles_front n s k h =
    let front = flat_map_range_front (cycle_text n s) 0 k s.cycles h in
    (front.0 ++ done_line s.cycles, sym (append_assoc (first_cycles n s k) front.0 (done_line s.cycles)) ∙ ap (λ (t : List ℕ). t ++ done_line s.cycles) (sym front.1))

one_more : (n : Netlist) (s : Stimulus) (k : ℕ) → first_cycles n s k ++ cycle_text n s k ≡ first_cycles n s (k + 1)
one_more n s k =
    let last : k ≡ 0 + k = omega arith in
    let all : suc k ≡ k + 1 = omega arith in
    ap (λ j. first_cycles n s k ++ cycle_text n s j) last ∙ sym (flat_map_range_more (cycle_text n s) 0 k) ∙ ap (first_cycles n s) all

-- one more cycle is written
pub cycle_written : {old mid new : Option (List ℕ)} (n : Netlist) (s : Stimulus) (k : ℕ) → Appends old mid (first_cycles n s k) → Appends mid new (cycle_text n s k) → Appends old new (first_cycles n s (k + 1))
cycle_written n s k h one = Appends-same (Appends-join h one) (one_more n s k)

-- the writing of one more cycle fails
pub cycle_broken : {old mid new : Option (List ℕ)} (n : Netlist) (s : Stimulus) (k : ℕ) → k < s.cycles → Appends old mid (first_cycles n s k) → AppendsPrefix mid new (cycle_text n s k) → AppendsPrefix old new (eval_text n s)
cycle_broken n s k l h one =
    let front = cycles_front n s (k + 1) (omega arith) in
    AppendsPrefix-same (AppendsPrefix-more front.0 (AppendsPrefix-same (AppendsPrefix-join h one) (one_more n s k))) front.1

-- the writing stops between two cycles
pub cycles_stopped : {old new : Option (List ℕ)} (n : Netlist) (s : Stimulus) (k : ℕ) → k ≤ s.cycles → Appends old new (first_cycles n s k) → AppendsPrefix old new (eval_text n s)
cycles_stopped n s k l h = let front = cycles_front n s k l in AppendsPrefix-same (AppendsPrefix-front front.0 h) front.1

-- the last line is written
pub text_written : {old mid new : Option (List ℕ)} (n : Netlist) (s : Stimulus) (k : ℕ) → k ≡ s.cycles → Appends old mid (first_cycles n s k) → Appends mid new (done_line s.cycles) → Appends old new (eval_text n s)
unfolding eval_text
text_written n s k e h last = Appends-same (Appends-join h last) (ap (λ j. first_cycles n s j ++ done_line s.cycles) e)

-- the writing of the last line fails
pub last_broken : {old mid new : Option (List ℕ)} (n : Netlist) (s : Stimulus) (k : ℕ) → k ≡ s.cycles → Appends old mid (first_cycles n s k) → AppendsPrefix mid new (done_line s.cycles) → AppendsPrefix old new (eval_text n s)
unfolding eval_text
last_broken n s k e h last = AppendsPrefix-same (AppendsPrefix-join h last) (ap (λ j. first_cycles n s j ++ done_line s.cycles) e)

-- ---- what a stop leaves

-- a stop in a piece is a stop in the whole text
pub StopsWriting-later : (fault later : Type 0) (old mid new : Option (List ℕ)) (text whole : List ℕ) (stop : Stop) → (fault → later) → (AppendsPrefix mid new text → AppendsPrefix old new whole) → StopsWriting fault mid new text stop → StopsWriting later old new whole stop
StopsWriting-later fault later old mid new text whole Usage f g h = h
StopsWriting-later fault later old mid new text whole (Refused line) f g h = h
StopsWriting-later fault later old mid new text whole (Unread line) f g h = h
StopsWriting-later fault later old mid new text whole Unwritten f g h = (f h.0, g h.1)
StopsWriting-later fault later old mid new text whole NoMemory f g h = g h

-- the lines of a frame's cycle
abbrev pub frame_text : FrameOf → List ℕ
frame_text f = cycle_text (net_of f.case) f.case.stimulus f.cycle

pub frame_written : {old mid new : Option (List ℕ)} (f : FrameOf) (c : CaseOf) (k : ℕ) → f ≡ frame_of c k → Appends old mid (first_cycles (net_of c) c.stimulus k) → Appends mid new (frame_text f) → Appends old new (first_cycles (net_of c) c.stimulus (k + 1))
frame_written f c k e h one = cycle_written (net_of c) c.stimulus k h (Appends-same one (ap frame_text e))

pub frame_broken : {old mid new : Option (List ℕ)} (f : FrameOf) (c : CaseOf) (k : ℕ) → f ≡ frame_of c k → k < c.stimulus.cycles → Appends old mid (first_cycles (net_of c) c.stimulus k) → AppendsPrefix mid new (frame_text f) → AppendsPrefix old new (eval_text (net_of c) c.stimulus)
frame_broken f c k e l h one = cycle_broken (net_of c) c.stimulus k l h (AppendsPrefix-same one (ap frame_text e))

-- the frame after another
pub after : (f next : FrameOf) (c : CaseOf) (k : ℕ) → f.case ≡ c → f.cycle + 1 ≡ k → next ≡ frame_of f.case (f.cycle + 1) → next ≡ frame_of c k
after f next c k same e is = is ∙ ap (λ (d : CaseOf). frame_of d (f.cycle + 1)) same ∙ ap (frame_of c) e

-- a count that had not risen before
pub Rose-since : (old mid new : ℕ) → mid ≡ old → Rose mid new → Rose old new
Rose-since old mid new e h = let P : ℕ → Type 0 = λ n. Rose n new in subst P e h
