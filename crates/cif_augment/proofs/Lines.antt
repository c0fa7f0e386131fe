-- Lines that stand in place of others.
use Rattle.std.specs.Prelude.{ℕ, zero, suc, ◌+◌, ◌<◌, ◌≤◌, nat_lt, ◌≡◌, ◌==◌, Bool, true, false, not, ◌&&◌, List, [], ◌∷◌, ◌++◌, map, reverse, length, take, get_or, is_some, refl}
use Rattle.std.proofs.Common.{arith, sym, ap, ◌∙◌, cond, append_assoc}
use Rattle.std.specs.List.{flat_map}
use Rattle.std.proofs.lemmas.List.{append-nil, length-map, reverse-append, take_all, flat_map_more}
use Rattle.std.proofs.lemmas.Bool.{false≢true, lt-ltb, eq-eqb, eqb-true}
use Rattle.std.proofs.Math.Numerals.{add-one}
use Rattle.std.proofs.Math.Seq.{take-suc}
use Rattle.cif_defs.specs.Words.{Word, zeros}
use Rattle.cif_defs.proofs.WordLaws.{length-word}
use Rattle.cif_defs.specs.Netlist.{Netlist}
use Rattle.cif_defs.specs.Stimulus.{Stimulus, StimLine, TaintedWord, reg_line, mem_line, release_line, cycle_line, set_line}
use Rattle.cif_stimulus.specs.Places.{open_cycle, may_follow, may_add, is_written, is_word, is_later, are_ordered, IsOrdered}
use Rattle.cif_stimulus.specs.Names.{line_at}
use Rattle.cif_stimulus.proofs.LineOrder.{first_true, second_true, both_true, reverse_push}
use Rattle.cif_stimulus.specs.StimulusView.{line_seen}
use Rattle.cif_stimulus.specs.declared.line.StimLine.{StimLine as CodeLine}
use Rattle.cif_augment.specs.Names.{taint_name, stored_name}
use Rattle.cif_augment.specs.Stimuli.{augmented, augmented_line, untainted, WithLines, is_reset_named}

-- ---- where lines may stand

-- whether a line may stand behind others is told by the group that they end in
pub follows_by : (cycles : ℕ) (a b : List StimLine) (line : StimLine) → open_cycle a ≡ open_cycle b → may_follow cycles a line ≡ may_follow cycles b line
follows_by cycles a b (cycle_line k) e = ap (λ o. nat_lt k cycles && is_later o k) e
follows_by cycles a b (set_line name w) e = ap is_some e
follows_by cycles a b (reg_line name w) e = ap (λ o. not (is_some o)) e
follows_by cycles a b (mem_line name address w) e = ap (λ o. not (is_some o)) e
follows_by cycles a b (release_line name bits) e = ap (λ o. not (is_some o)) e

-- a line that begins no group leaves the group open
pub open_push : (lines : List StimLine) (line : StimLine) (before : List StimLine) → reverse before ≡ lines → open_cycle (reverse (before ++ line ∷ [])) ≡ open_cycle (line ∷ lines)
open_push lines line before e = ap open_cycle (reverse_push before line ∙ ap (λ (ls : List StimLine). line ∷ ls) e)

pub set_again : (s t : Stimulus) (name other : List ℕ) (v w : TaintedWord) → WithLines s t (set_line name v ∷ []) → may_add s (set_line other w) ≡ true → may_add t (set_line other w) ≡ true
set_again s t name other v w e h = ap (λ (x : Stimulus). is_some (open_cycle (reverse x.lines))) e ∙ ap is_some (open_push (reverse s.lines) (set_line name v) s.lines refl) ∙ h

pub reg_again : (s t : Stimulus) (name other : List ℕ) (v w : TaintedWord) → WithLines s t (reg_line name v ∷ []) → may_add s (reg_line other w) ≡ true → may_add t (reg_line other w) ≡ true
reg_again s t name other v w e h = ap (λ (x : Stimulus). not (is_some (open_cycle (reverse x.lines)))) e ∙ ap (λ o. not (is_some o)) (open_push (reverse s.lines) (reg_line name v) s.lines refl) ∙ h

pub mem_again : (s t : Stimulus) (name other : List ℕ) (a b : ℕ) (v w : TaintedWord) → WithLines s t (mem_line name a v ∷ []) → may_add s (mem_line other b w) ≡ true → may_add t (mem_line other b w) ≡ true
mem_again s t name other a b v w e h = ap (λ (x : Stimulus). not (is_some (open_cycle (reverse x.lines)))) e ∙ ap (λ o. not (is_some o)) (open_push (reverse s.lines) (mem_line name a v) s.lines refl) ∙ h

-- ---- lines that can be written

longer : (name more : List ℕ) → nat_lt 0 (length name) ≡ true → nat_lt 0 (length (name ++ more)) ≡ true
longer [] more h = absurd (false≢true h)
longer (x ∷ xs) more h = lt-ltb 0 (length (x ∷ xs ++ more)) (omega arith)

-- a word without taint is one where it has bits
is_untainted : (w : Word) → nat_lt 0 (length w) ≡ true → is_word (untainted w) ≡ true
is_untainted w h = both_true (nat_lt 0 (length w)) (length (zeros (length w)) == length w) h (eq-eqb (length (zeros (length w))) (length w) (length-word (length w) (λ i. false)))

-- the value and the taint of a word have bits
value_some : (w : TaintedWord) → is_word w ≡ true → nat_lt 0 (length w.value) ≡ true
value_some w h = first_true (nat_lt 0 (length w.value)) (length w.taint == length w.value) h

taint_some : (w : TaintedWord) → is_word w ≡ true → nat_lt 0 (length w.taint) ≡ true
taint_some w h = ap (nat_lt 0) (eqb-true (length w.taint) (length w.value) (second_true (nat_lt 0 (length w.value)) (length w.taint == length w.value) h)) ∙ value_some w h

abbrev is_named : List ℕ → TaintedWord → Bool
is_named name w = nat_lt 0 (length name) && is_word w

-- the word of a line without taint, under its name and under a longer one
pub value_written : (name other : List ℕ) (w : TaintedWord) → other ≡ name → is_named name w ≡ true → is_named other (untainted w.value) ≡ true
value_written name other w e h = ap (λ (a : List ℕ). is_named a (untainted w.value)) e ∙ both_true (nat_lt 0 (length name)) (is_word (untainted w.value)) (first_true (nat_lt 0 (length name)) (is_word w) h)
    (is_untainted w.value (value_some w (second_true (nat_lt 0 (length name)) (is_word w) h)))

pub named_written : (name more other : List ℕ) (w : TaintedWord) → other ≡ name ++ more → is_named name w ≡ true → is_named other (untainted w.value) ≡ true
named_written name more other w e h = ap (λ (a : List ℕ). is_named a (untainted w.value)) e ∙ both_true (nat_lt 0 (length (name ++ more))) (is_word (untainted w.value)) (longer name more (first_true (nat_lt 0 (length name)) (is_word w) h))
    (is_untainted w.value (value_some w (second_true (nat_lt 0 (length name)) (is_word w) h)))

-- its taint as a value
pub taint_written : (name more other : List ℕ) (w : TaintedWord) (t : Word) → other ≡ name ++ more → length t ≡ length w.taint → is_named name w ≡ true → is_named other (untainted t) ≡ true
taint_written name more other w t e k h = ap (λ (a : List ℕ). is_named a (untainted t)) e ∙ both_true (nat_lt 0 (length (name ++ more))) (is_word (untainted t)) (longer name more (first_true (nat_lt 0 (length name)) (is_word w) h))
    (is_untainted t (ap (nat_lt 0) k ∙ taint_some w (second_true (nat_lt 0 (length name)) (is_word w) h)))

-- ---- one line after another

-- what stands in place of a line ends in the same group
opens_same : (n : Netlist) (all : List StimLine) (line : StimLine) (a b : List StimLine) → open_cycle a ≡ open_cycle b → open_cycle (reverse (augmented_line n all line) ++ a) ≡ open_cycle (line ∷ b)
opens_same n all (cycle_line k) a b e = refl
opens_same n all (set_line name w) a b e = e
opens_same n all (reg_line name w) a b e = by_reset (is_reset_named n name) where
  by_reset : (r : Bool) → open_cycle (reverse (reg_line name (untainted w.value) ∷ reg_line (taint_name name) (untainted w.taint) ∷ cond r (reg_line (stored_name name) (untainted w.value) ∷ []) []) ++ a) ≡ open_cycle b
  by_reset true = e
  by_reset false = e
opens_same n all (mem_line name address w) a b e = e
opens_same n all (release_line name bits) a b e = e

opens_from : (n : Netlist) (all before lines a : List StimLine) → open_cycle a ≡ open_cycle before → open_cycle (reverse (flat_map (augmented_line n all) lines) ++ a) ≡ open_cycle (reverse lines ++ before)
opens_from n all before [] a e = e
opens_from n all before (line ∷ lines) a e =
    ap (λ (ls : List StimLine). open_cycle (ls ++ a)) (reverse-append (augmented_line n all line) (flat_map (augmented_line n all) lines))
    ∙ ap open_cycle (append_assoc (reverse (flat_map (augmented_line n all) lines)) (reverse (augmented_line n all line)) a)
    ∙ opens_from n all (line ∷ before) lines (reverse (augmented_line n all line) ++ a) (opens_same n all line a before e)
    ∙ ap open_cycle (sym (ap (λ (ls : List StimLine). ls ++ before) (reverse-append (line ∷ []) lines) ∙ append_assoc (reverse lines) (line ∷ []) before))

-- what stands in place of lines ends in the group that they end in
pub opens_alike : (n : Netlist) (all lines : List StimLine) → open_cycle (reverse (flat_map (augmented_line n all) lines)) ≡ open_cycle (reverse lines)
opens_alike n all lines =
    ap open_cycle (sym (append-nil (reverse (flat_map (augmented_line n all) lines))))
    ∙ opens_from n all [] lines [] refl
    ∙ ap open_cycle (append-nil (reverse lines))

-- what ordered lines say of the line at a place
pub record StandsAt (cycles : ℕ) (before : List StimLine) (line : StimLine) : Type 0 where
  pub place : may_follow cycles before line ≡ true
  pub written : is_written line ≡ true

ordered_from : (cycles : ℕ) (before lines : List StimLine) (i : ℕ) (d : StimLine) → are_ordered cycles before lines ≡ true → i < length lines → StandsAt cycles (reverse (take i lines) ++ before) (get_or lines i d)
ordered_from cycles before [] i d h l = absurd (omega arith)
ordered_from cycles before (x ∷ xs) zero d h l =
    let both = first_true (may_follow cycles before x && is_written x) (are_ordered cycles (x ∷ before) xs) h in
    record { place = first_true (may_follow cycles before x) (is_written x) both; written = second_true (may_follow cycles before x) (is_written x) both }
ordered_from cycles before (x ∷ xs) (suc i) d h l =
    let rest = ordered_from cycles (x ∷ before) xs i d (second_true (may_follow cycles before x && is_written x) (are_ordered cycles (x ∷ before) xs) h) (omega arith) in
    let same : reverse (x ∷ take i xs) ++ before ≡ reverse (take i xs) ++ (x ∷ before) = ap (λ (ls : List StimLine). ls ++ before) (reverse-append (x ∷ []) (take i xs)) ∙ append_assoc (reverse (take i xs)) (x ∷ []) before in
    record { place = ap (λ (ls : List StimLine). may_follow cycles ls (get_or xs i d)) same ∙ rest.place; written = rest.written }

pub ordered_at : (cycles : ℕ) (lines : List StimLine) (i : ℕ) (d : StimLine) → are_ordered cycles [] lines ≡ true → i < length lines → StandsAt cycles (reverse (take i lines)) (get_or lines i d)
ordered_at cycles lines i d h l =
    let at = ordered_from cycles [] lines i d h l in
    record { place = ap (λ (ls : List StimLine). may_follow cycles ls (get_or lines i d)) (sym (append-nil (reverse (take i lines)))) ∙ at.place; written = at.written }

-- ---- the lines so far

-- what stands in place of the first i lines
abbrev pub augmented_upto : Netlist → Stimulus → ℕ → Stimulus
augmented_upto n s i = record { cycles = s.cycles; lines = flat_map (augmented_line n s.lines) (take i s.lines) }

take_more : (xs : List StimLine) (i : ℕ) (d : StimLine) → i < length xs → take (i + 1) xs ≡ take i xs ++ get_or xs i d ∷ []
take_more xs i d h = ap (λ k. take k xs) (add-one i) ∙ take-suc xs i d h

module _ (n : Netlist) (s made : Stimulus) (i : ℕ) (line : StimLine) (ordered : IsOrdered s) (sofar : made ≡ augmented_upto n s i) (inside : i < length s.lines) (here : line ≡ line_at s.lines i) where
  pub may_stand : may_add made line ≡ true
  may_stand =
      ap (λ (m : Stimulus). may_follow m.cycles (reverse m.lines) line) sofar
      ∙ follows_by s.cycles (reverse (flat_map (augmented_line n s.lines) (take i s.lines))) (reverse (take i s.lines)) line (opens_alike n s.lines (take i s.lines))
      ∙ ap (may_follow s.cycles (reverse (take i s.lines))) here
      ∙ (ordered_at s.cycles s.lines i (cycle_line 0) ordered.lines inside).place

  pub is_one : is_written line ≡ true
  is_one = ap is_written here ∙ (ordered_at s.cycles s.lines i (cycle_line 0) ordered.lines inside).written

  pub made_more : (new : Stimulus) → WithLines made new (augmented_line n s.lines line) → new ≡ augmented_upto n s (i + 1)
  made_more new e =
      let both : flat_map (augmented_line n s.lines) (take i s.lines) ++ augmented_line n s.lines line ≡ flat_map (augmented_line n s.lines) (take (i + 1) s.lines) =
      ap (λ (l : StimLine). flat_map (augmented_line n s.lines) (take i s.lines) ++ augmented_line n s.lines l) here
      ∙ flat_map_more (augmented_line n s.lines) [] (take i s.lines) (line_at s.lines i)
      ∙ ap (flat_map (augmented_line n s.lines)) (sym (take_more s.lines i (cycle_line 0) inside)) in
      e
      ∙ ap (λ (m : Stimulus). record { cycles = m.cycles; lines = m.lines ++ augmented_line n s.lines line }) sofar
      ∙ ap (λ (ls : List StimLine). record { cycles = s.cycles; lines = ls }) both

pub made_none : (n : Netlist) (s made : Stimulus) → made ≡ record { cycles = s.cycles; lines = [] } → made ≡ augmented_upto n s 0
made_none n s made e = e

pub made_all : (n : Netlist) (s made : Stimulus) (i : ℕ) → made ≡ augmented_upto n s i → length s.lines ≤ i → made ≡ augmented n s
unfolding augmented
made_all n s made i e h = e ∙ ap (λ (ls : List StimLine). record { cycles = s.cycles; lines = flat_map (augmented_line n s.lines) ls }) (take_all i s.lines h)

-- a line of code stands among the lines that it is seen as
pub seen_inside : (lines : List CodeLine) (seen : List StimLine) (i : ℕ) → map line_seen lines ≡ seen → i < length lines → i < length seen
seen_inside lines seen i is h = (let e : length seen ≡ length lines = ap (λ (ls : List StimLine). length ls) (sym is) ∙ length-map lines line_seen in omega arith)

pub seen_past : (lines : List CodeLine) (seen : List StimLine) (i : ℕ) → map line_seen lines ≡ seen → length lines ≤ i → length seen ≤ i
seen_past lines seen i is h = (let e : length seen ≡ length lines = ap (λ (ls : List StimLine). length ls) (sym is) ∙ length-map lines line_seen in omega arith)
