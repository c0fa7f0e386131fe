-- Lines that stand where they may, one after another.
use Rattle.std.specs.Prelude.{ℕ, zero, suc, ◌≡◌, Bool, true, false, ◌&&◌, ◌||◌, List, [], ◌∷◌, ◌++◌, map, reverse, length, drop, Option, refl}
use Rattle.std.proofs.Common.{arith, sym, ap, subst, ◌∙◌, append_assoc}
use Rattle.std.specs.List.{list_any}
use Rattle.std.specs.Global.{Vec}
use mathlib.Core.List.{reverse-cons}
use Rattle.std.proofs.lemmas.Bool.{false≢true}
use Rattle.std.proofs.lemmas.List.{append-nil, map-append, length-append}
use Rattle.cif_defs.specs.Stimulus.{Stimulus as StimulusData, StimLine as LineData}
use Rattle.cif_stimulus.specs.Places.{may_follow, is_written, are_ordered, IsOrdered}
use Rattle.cif_defs.specs.Stimulus.{is_released, is_bit}
use Rattle.cif_stimulus.specs.Held.{releases_bit}
use Rattle.cif_stimulus.specs.Inside.{stimulus_seen, StartsBefore, IsKept}
use Rattle.cif_stimulus.specs.StimulusView.{line_seen, is_start}
use Rattle.cif_stimulus.specs.declared.line.StimLine.TheVariants.{Reg, Mem, Release, Cycle, Set}
use Rattle.cif_stimulus.specs.declared.stimulus.Stimulus.TheInside.{Inside}
use Rattle.cif_stimulus.specs.declared.line.StimLine.{StimLine}

pub first_true : (a b : Bool) → (a && b) ≡ true → a ≡ true
first_true true b h = refl
first_true false b h = absurd (false≢true h)

pub second_true : (a b : Bool) → (a && b) ≡ true → b ≡ true
second_true true b h = h
second_true false b h = absurd (false≢true h)

pub both_true : (a b : Bool) → a ≡ true → b ≡ true → (a && b) ≡ true
both_true true b h k = k
both_true false b h k = absurd (false≢true h)

pub reverse_before : (x : LineData) (xs before : List LineData) → reverse (x ∷ xs) ++ before ≡ reverse xs ++ (x ∷ before)
reverse_before x xs before = ap (λ (ys : List LineData). ys ++ before) (reverse-cons x xs) ∙ append_assoc (reverse xs) (x ∷ []) before

pub reverse_push : (xs : List LineData) (x : LineData) → reverse (xs ++ x ∷ []) ≡ x ∷ reverse xs
reverse_push [] x = refl
reverse_push (y ∷ ys) x =
    reverse-cons y (ys ++ x ∷ [])
    ∙ ap (λ (zs : List LineData). zs ++ y ∷ []) (reverse_push ys x)
    ∙ ap (λ (zs : List LineData). x ∷ zs) (sym (reverse-cons y ys))

ordered_by : (cycles : ℕ) (before lines : List LineData) (line : LineData) → are_ordered cycles before lines ≡ true → may_follow cycles (reverse lines ++ before) line ≡ true → is_written line ≡ true → are_ordered cycles before (lines ++ line ∷ []) ≡ true
ordered_by cycles before [] line h may written = both_true (may_follow cycles before line && is_written line) true (both_true (may_follow cycles before line) (is_written line) may written) refl
ordered_by cycles before (x ∷ xs) line h may written =
    both_true (may_follow cycles before x && is_written x) (are_ordered cycles (x ∷ before) (xs ++ line ∷ []))
    (first_true (may_follow cycles before x && is_written x) (are_ordered cycles (x ∷ before) xs) h)
    (ordered_by cycles (x ∷ before) xs line (second_true (may_follow cycles before x && is_written x) (are_ordered cycles (x ∷ before) xs) h)
    (ap (λ (ys : List LineData). may_follow cycles ys line) (sym (reverse_before x xs before)) ∙ may) written)

-- one line more
pub ordered_push : (cycles : ℕ) (lines : List StimLine) (line : StimLine) → IsOrdered (record { cycles = cycles; lines = map line_seen lines }) → may_follow cycles (reverse (map line_seen lines)) (line_seen line) ≡ true → is_written (line_seen line) ≡ true → IsOrdered (record { cycles = cycles; lines = map line_seen (lines ++ line ∷ []) })
ordered_push cycles lines line h may written = record {
  cycles = h.cycles;
  lines = ap (are_ordered cycles []) (map-append line_seen lines (line ∷ []))
      ∙ ordered_by cycles [] (map line_seen lines) (line_seen line) h.lines (ap (λ (ys : List LineData). may_follow cycles ys (line_seen line)) (append-nil (reverse (map line_seen lines))) ∙ may) written;
}

-- ---- lines that cells start with come first

none_of_none : (n : ℕ) → list_any is_start (drop n []) ≡ false
none_of_none zero = refl
none_of_none (suc n) = refl

starts_later : (n : ℕ) (lines : List StimLine) (line : StimLine) → list_any is_start (drop n lines) ≡ false → is_start line ≡ false → list_any is_start (drop n (lines ++ line ∷ [])) ≡ false
starts_later zero [] line h other = ap (λ b. b || false) other
starts_later (suc n) [] line h other = none_of_none n
starts_later zero (x ∷ xs) line h other = by_first (is_start x) (list_any is_start xs) h (starts_later zero xs line) where
  by_first : (a b : Bool) → (a || b) ≡ false → (b ≡ false → is_start line ≡ false → list_any is_start (xs ++ line ∷ []) ≡ false) → (a || list_any is_start (xs ++ line ∷ [])) ≡ false
  by_first true b k next = absurd (false≢true (sym k))
  by_first false b k next = next k other
starts_later (suc n) (x ∷ xs) line h other = starts_later n xs line h other

starts_push : (n : ℕ) (lines : List StimLine) (line : StimLine) → StartsBefore n lines → is_start line ≡ false → StartsBefore n (lines ++ line ∷ [])
starts_push n lines line h other = record { inside = (let i = h.inside in let e = length-append lines (line ∷ []) in omega arith); later = starts_later n lines line h.later other }

none_past : (lines : List StimLine) → list_any is_start (drop (length lines) lines) ≡ false
none_past [] = refl
none_past (x ∷ xs) = none_past xs

starts_all : (n : ℕ) (lines : List StimLine) → n ≡ length lines → StartsBefore n lines
starts_all n lines e = record { inside = omega arith; later = ap (λ k. list_any is_start (drop k lines)) e ∙ none_past lines }

-- ---- what a stimulus keeps

ordered_kept : (old : Inside) (seen : StimulusData) (new : List StimLine) (line : StimLine) → IsKept old → stimulus_seen old ≡ seen → new ≡ old.lines.items ++ line ∷ [] → may_follow seen.cycles (reverse seen.lines) (line_seen line) ≡ true → is_written (line_seen line) ≡ true → IsOrdered (record { cycles = old.cycles; lines = map line_seen new })
ordered_kept old seen new line h is made may written =
    let P : List StimLine → Type 0 = λ ls. IsOrdered (record { cycles = old.cycles; lines = map line_seen ls }) in
    subst P (sym made) (ordered_push old.cycles old.lines.items line h.ordered
    (ap (λ (s : StimulusData). may_follow s.cycles (reverse s.lines) (line_seen line)) is ∙ may) written)

-- a line that names no cell is added
pub kept_other : (old : Inside) (seen : StimulusData) (new : Vec StimLine) (places : Vec (Option ℕ)) (line : StimLine) → IsKept old → stimulus_seen old ≡ seen → new.items ≡ old.lines.items ++ line ∷ [] → is_start line ≡ false → may_follow seen.cycles (reverse seen.lines) (line_seen line) ≡ true → is_written (line_seen line) ≡ true → IsKept (record { cycles = old.cycles; lines = new; places = places; starts = old.starts })
kept_other old seen new places line h is made other may written =
    let P : List StimLine → Type 0 = λ ls. StartsBefore old.starts ls in
    record { starts = subst P (sym made) (starts_push old.starts old.lines.items line h.starts other); ordered = ordered_kept old seen new.items line h is made may written }

-- a line that names a cell is added
pub kept_start : (old : Inside) (seen : StimulusData) (new : Vec StimLine) (places : Vec (Option ℕ)) (line : StimLine) (starts : ℕ) → IsKept old → stimulus_seen old ≡ seen → new.items ≡ old.lines.items ++ line ∷ [] → starts ≡ length new.items → may_follow seen.cycles (reverse seen.lines) (line_seen line) ≡ true → is_written (line_seen line) ≡ true → IsKept (record { cycles = old.cycles; lines = new; places = places; starts = starts })
kept_start old seen new places line starts h is made count may written =
    record { starts = starts_all starts new.items count; ordered = ordered_kept old seen new.items line h is made may written }

-- ---- what is released

pub released_by : (lines : List StimLine) (b : ℕ) → list_any (λ l. releases_bit b (line_seen l)) lines ≡ is_released (map line_seen lines) b
released_by [] b = refl
released_by (Release name wire ∷ ls) b = ap (λ r. list_any (is_bit b) wire.bits || r) (released_by ls b)
released_by (Reg cell value taint ∷ ls) b = released_by ls b
released_by (Mem cell address value taint ∷ ls) b = released_by ls b
released_by (Cycle k ∷ ls) b = released_by ls b
released_by (Set port value taint ∷ ls) b = released_by ls b

pub released_seen : (s : Inside) (seen : StimulusData) (lines : List StimLine) (b : ℕ) → stimulus_seen s ≡ seen → lines ≡ s.lines.items → list_any (λ l. releases_bit b (line_seen l)) lines ≡ is_released seen.lines b
released_seen s seen lines b is same =
    ap (λ (ls : List StimLine). list_any (λ l. releases_bit b (line_seen l)) ls) same
    ∙ released_by s.lines.items b
    ∙ ap (λ (d : StimulusData). is_released d.lines b) is
