-- Reading the text that is written of a stimulus gives the stimulus again.
use Rattle.std.specs.Prelude.{ℕ, suc, ◌^◌, ◌<◌, ◌≡◌, ◌==◌, nat_lt, nat_le, Bool, true, false, not, ◌&&◌, ◌||◌, List, [], ◌∷◌, ◌++◌, map, reverse, codes, Some, None, Ok, Err, refl, if◌then◌else◌}
use Rattle.std.specs.List.{list_all, list_any, flat_map}
use Rattle.std.specs.Fmt.{decimal}
use Rattle.std.proofs.Common.{arith, sym, ap, ◌∙◌, append_assoc}
use Rattle.std.proofs.lemmas.List.{append-nil}
use Rattle.std.proofs.lemmas.Bool.Decides.{nat_tests}
use Rattle.std.proofs.lemmas.Fmt.{decimal_digit}
use Rattle.std.proofs.lemmas.Grind.{reverse_onto}
use Rattle.cif_defs.specs.Stimulus.{Stimulus as StimulusData, StimLine as LineData}
use Rattle.cif_defs.specs.Text.{line_end}
use Rattle.cif_defs.specs.declared.raw_module.Raw.{Raw}
use Rattle.cif_stimulus.specs.Fitting.{has_name, has_address, has_width, is_again, lines_fit, line_fits, fits_of}
use Rattle.cif_stimulus.specs.Places.{cycle_limit, may_follow, is_written, are_ordered, is_cycle_count, IsOrdered}
use Rattle.cif_stim_write.specs.Ranges.{is_in_range}
use Rattle.cif_stimulus.specs.StimulusText.{Head, line_fault, unless, if_said, line_read, ◌and_then◌, lines_read, version_read, cycles_read, after_version, after_skipped, stimulus_read, line_text, is_release, version_of, stimulus_text}
use Rattle.cif_stimulus.specs.declared.fault.StimFault.TheVariants.{BadLine, NoSuchName, WrongWidth, SetTwice, BadAddress}
use Rattle.cif_text.proofs.BoolTests.{both, and_true, untrue}
use Rattle.cif_text.proofs.Decimals.{number_read-decimal}
use Rattle.cif_stim_write.proofs.WrittenLines.{joined, AreLines, ended, rows, numbered-ended}
use Rattle.cif_stim_write.proofs.SaidLines.{line_words, line_of, number_visible, number_some, is_known, said_back, line_text_is}

-- ---- line by line

-- what is asked of a line, after those before it
record IsRight (raw : Raw) (head : Head) (before : List LineData) (line : LineData) : Type 0 where
  follows : may_follow head.cycles before line ≡ true
  written : is_written line ≡ true
  range : is_in_range line ≡ true
  fits : line_fits raw before line ≡ true
  known : is_known head.version line ≡ true

no_fault : (raw : Raw) (before : List LineData) (number : ℕ) (line : LineData) → line_fits raw before line ≡ true → line_fault raw before number line ≡ None
no_fault raw before number line h =
    let again = both (has_name raw line && has_address raw line && has_width raw line) (not (is_again line before)) h in
    let width = both (has_name raw line && has_address raw line) (has_width raw line) again.0 in
    let address = both (has_name raw line) (has_address raw line) width.0 in
    ap (λ s. if not s then Some (NoSuchName number) else if not (has_address raw line) then Some (BadAddress number) else if not (has_width raw line) then Some (WrongWidth number) else if is_again line before then Some (SetTwice number) else None) address.0
    ∙ ap (λ s. if not s then Some (BadAddress number) else if not (has_width raw line) then Some (WrongWidth number) else if is_again line before then Some (SetTwice number) else None) address.1
    ∙ ap (λ s. if not s then Some (WrongWidth number) else if is_again line before then Some (SetTwice number) else None) width.1
    ∙ ap (λ s. if s then Some (SetTwice number) else None) (untrue (is_again line before) again.1)

name_there : (raw : Raw) (before : List LineData) (line : LineData) → line_fits raw before line ≡ true → has_name raw line ≡ true
name_there raw before line h =
    let again = both (has_name raw line && has_address raw line && has_width raw line) (not (is_again line before)) h in
    let width = both (has_name raw line && has_address raw line) (has_width raw line) again.0 in
    (both (has_name raw line) (has_address raw line) width.0).0

line_back : (raw : Raw) (head : Head) (before : List LineData) (number : ℕ) (line : LineData) → IsRight raw head before line → line_read raw head before (record { number = number; words = line_words line }) ≡ Ok line
unfolding line_read
line_back raw head before number line h =
    ap (if_said raw head.cycles before number) (said_back raw head.version line h.written h.range (name_there raw before line h.fits) h.known)
    ∙ ap (λ s. if s then unless (line_fault raw before number line) line else Err (BadLine number)) h.follows
    ∙ ap (λ fault. unless fault line) (no_fault raw before number line h.fits)

-- what is asked of the lines after those before them
record AreRight (raw : Raw) (head : Head) (before lines : List LineData) : Type 0 where
  ordered : are_ordered head.cycles before lines ≡ true
  range : list_all is_in_range lines ≡ true
  fits : lines_fit raw before lines ≡ true
  known : list_all (is_known head.version) lines ≡ true

right_first : (raw : Raw) (head : Head) (before : List LineData) (line : LineData) (lines : List LineData) → AreRight raw head before (line ∷ lines) → IsRight raw head before line
right_first raw head before line lines h =
    let ordered = both (may_follow head.cycles before line && is_written line) (are_ordered head.cycles (line ∷ before) lines) h.ordered in
    let placed = both (may_follow head.cycles before line) (is_written line) ordered.0 in
    record {
      follows = placed.0;
      written = placed.1;
      range = (both (is_in_range line) (list_all is_in_range lines) h.range).0;
      fits = (both (line_fits raw before line) (lines_fit raw (line ∷ before) lines) h.fits).0;
      known = (both (is_known head.version line) (list_all (is_known head.version) lines) h.known).0;
    }

right_rest : (raw : Raw) (head : Head) (before : List LineData) (line : LineData) (lines : List LineData) → AreRight raw head before (line ∷ lines) → AreRight raw head (line ∷ before) lines
right_rest raw head before line lines h = record {
  ordered = (both (may_follow head.cycles before line && is_written line) (are_ordered head.cycles (line ∷ before) lines) h.ordered).1;
  range = (both (is_in_range line) (list_all is_in_range lines) h.range).1;
  fits = (both (line_fits raw before line) (lines_fit raw (line ∷ before) lines) h.fits).1;
  known = (both (is_known head.version line) (list_all (is_known head.version) lines) h.known).1;
}

lines_back : (raw : Raw) (head : Head) (before : List LineData) (n : ℕ) (lines : List LineData) → AreRight raw head before lines → lines_read raw head before (rows n (map line_words lines)) ≡ Ok (reverse before ++ lines)
lines_back raw head before n [] h = ap Ok (sym (append-nil (reverse before)))
lines_back raw head before n (line ∷ lines) h =
    ap (λ r. r and_then (λ l. lines_read raw head (l ∷ before) (rows (suc n) (map line_words lines)))) (line_back raw head before n line (right_first raw head before line lines h))
    ∙ lines_back raw head (line ∷ before) (suc n) lines (right_rest raw head before line lines h)
    ∙ ap (λ ls. Ok (ls ++ lines)) (reverse_onto before line [])
    ∙ ap Ok (append_assoc (reverse before) (line ∷ []) lines)

-- ---- the first two lines

-- version 2 where something is released
abbrev version_by : Bool → ℕ
version_by s = if s then 2 else 1

known_to_two : (lines : List LineData) → list_all (is_known 2) lines ≡ true
known_to_two [] = refl
known_to_two (line ∷ lines) = and_true _ _ (or_true (not (is_release line))) (known_to_two lines)
  where
    or_true : (s : Bool) → (s || true) ≡ true
    or_true true = refl
    or_true false = refl

none_of_both : (a b : Bool) → (a || b) ≡ false → (a ≡ false) × (b ≡ false)
none_of_both true b h = absurd (cc)
none_of_both false b h = (refl, h)

known_to_one : (lines : List LineData) → list_any is_release lines ≡ false → list_all (is_known 1) lines ≡ true
known_to_one [] h = refl
known_to_one (line ∷ lines) h =
    let parts = none_of_both (is_release line) (list_any is_release lines) h in
    and_true _ _ (ap (λ s. not s || false) parts.0) (known_to_one lines parts.1)

all_known : (lines : List LineData) (s : Bool) → list_any is_release lines ≡ s → list_all (is_known (version_by s)) lines ≡ true
all_known lines true h = known_to_two lines
all_known lines false h = known_to_one lines h

abbrev version_words : ℕ → List (List ℕ)
version_words v = codes "cellift-stimulus" ∷ decimal v ∷ []

abbrev cycles_words : ℕ → List (List ℕ)
cycles_words n = codes "cycles" ∷ decimal n ∷ []

version_back : (number : ℕ) (s : Bool) → version_read (record { number = number; words = version_words (version_by s) }) ≡ Ok (version_by s)
version_back number true = ap (λ t. version_read (record { number = number; words = codes "cellift-stimulus" ∷ t ∷ [] })) (decimal_digit 2 (omega arith))
version_back number false = ap (λ t. version_read (record { number = number; words = codes "cellift-stimulus" ∷ t ∷ [] })) (decimal_digit 1 (omega arith))

record IsCount (n : ℕ) : Type 0 where
  some : (n == 0) ≡ false
  few : nat_lt cycle_limit n ≡ false
  small : n < 2 ^ 64

count_is : (n : ℕ) → is_cycle_count n ≡ true → IsCount n
count_is n h =
    let parts = both (nat_le 1 n) (nat_le n cycle_limit) h in
    let few : nat_lt cycle_limit n ≡ false = grind (arith, nat_tests) in
    record { some = grind (arith, nat_tests); few = few; small = grind (arith, nat_tests) }

cycles_back : (number n : ℕ) → IsCount n → cycles_read (record { number = number; words = cycles_words n }) ≡ Ok n
cycles_back number n h = rw (number_read-decimal n h.small, h.some, h.few)

head_lines : (version cycles : ℕ) (lines : List (List (List ℕ))) → version < 10 → 0 < version → IsCount cycles → AreLines lines → AreLines (version_words version ∷ cycles_words cycles ∷ lines)
head_lines version cycles lines v p c h = (
  record {
    visible = and_true _ _ refl (number_visible version [] (omega arith) refl);
    some = and_true _ _ refl (number_some version [] (omega arith) refl);
    counted = refl;
  },
  (
    record {
      visible = and_true _ _ refl (number_visible cycles [] c.small refl);
      some = and_true _ _ refl (number_some cycles [] c.small refl);
      counted = refl;
    },
    h,
  ),
)

lines_are : (raw : Raw) (head : Head) (before lines : List LineData) → AreRight raw head before lines → AreLines (map line_words lines)
lines_are raw head before [] h = tt
lines_are raw head before (line ∷ lines) h =
    let first = right_first raw head before line lines h in
    (line_of line first.written first.range, lines_are raw head (line ∷ before) lines (right_rest raw head before line lines h))

-- ---- the whole text

-- the words of all lines
abbrev all_words : ℕ → StimulusData → List (List (List ℕ))
all_words version s = version_words version ∷ cycles_words s.cycles ∷ map line_words s.lines

lines_text_is : (lines : List LineData) → flat_map line_text lines ≡ ended (map line_words lines)
lines_text_is [] = refl
lines_text_is (line ∷ lines) =
    ap (λ text. text ++ flat_map line_text lines) (line_text_is line)
    ∙ append_assoc (joined (line_words line)) (line_end ∷ []) (flat_map line_text lines)
    ∙ ap (λ rest. joined (line_words line) ++ line_end ∷ rest) (lines_text_is lines)

text_is : (s : StimulusData) → stimulus_text s ≡ ended (all_words (version_of s) s)
unfolding stimulus_text
text_is s = ap (λ rest. codes "cellift-stimulus " ++ decimal (version_of s) ++ line_end ∷ codes "cycles " ++ decimal s.cycles ++ line_end ∷ rest) (lines_text_is s.lines) ∙ simp append_assoc

version_range : (s : Bool) → (version_by s < 10) × (0 < version_by s)
version_range true = (omega arith, omega arith)
version_range false = (omega arith, omega arith)

rows_back : (raw : Raw) (released : Bool) (cycles : ℕ) (lines : List LineData) → IsCount cycles → AreRight raw (record { version = version_by released; cycles = cycles }) [] lines → after_skipped raw (rows 1 (version_words (version_by released) ∷ cycles_words cycles ∷ map line_words lines)) ≡ Ok (record { cycles = cycles; lines = lines })
rows_back raw released cycles lines c h =
    ap (λ r. r and_then (λ version. after_version raw version (rows 2 (cycles_words cycles ∷ map line_words lines)))) (version_back 1 released)
    ∙ ap (λ r. r and_then (λ n. lines_read raw (record { version = version_by released; cycles = n }) [] (rows 3 (map line_words lines)) and_then (λ ls. Ok (record { cycles = n; lines = ls })))) (cycles_back 2 cycles c)
    ∙ ap (λ r. r and_then (λ ls. Ok (record { cycles = cycles; lines = ls }))) (lines_back raw (record { version = version_by released; cycles = cycles }) [] 3 lines h)

-- what is written can be read, and gives what was written
pub read_back : (raw : Raw) (s : StimulusData) → IsOrdered s → list_all is_in_range s.lines ≡ true → fits_of raw s ≡ true → stimulus_read raw (stimulus_text s) ≡ Ok s
unfolding stimulus_read fits_of
read_back raw s ordered range fits =
    let released = list_any is_release s.lines in
    let count = count_is s.cycles ordered.cycles in
    let right : AreRight raw (record { version = version_by released; cycles = s.cycles }) [] s.lines = record { ordered = ordered.lines; range = range; fits = fits; known = all_known s.lines released refl } in
    let version = version_range released in
    let are = head_lines (version_by released) s.cycles (map line_words s.lines) version.0 version.1 count (lines_are raw (record { version = version_by released; cycles = s.cycles }) [] s.lines right) in
    ap (stimulus_read raw) (text_is s)
    ∙ ap (after_skipped raw) (numbered-ended (all_words (version_by released) s) are)
    ∙ rows_back raw released s.cycles s.lines count right
