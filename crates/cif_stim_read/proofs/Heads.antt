-- The first two lines, and what is read fits.
use Rattle.std.specs.Prelude.{ℕ, ◌<◌, ◌≡◌, Bool, true, false, not, ◌&&◌, List, [], ◌∷◌, ◌++◌, length, reverse, Option, Some, None, Result, Ok, Err, refl}
use Rattle.std.proofs.Common.{arith, sym, ap, ◌∙◌}
use mathlib.Core.List.{reverse-cons}
use Rattle.std.proofs.lemmas.List.{append-nil, reverse-reverse}
use Rattle.cif_defs.specs.Stimulus.{Stimulus as StimulusData, StimLine as LineData}
use Rattle.cif_defs.specs.Text.{lines_of}
use Rattle.cif_defs.specs.declared.raw_module.Raw.{Raw}
use Rattle.cif_stimulus.specs.Fitting.{has_name, has_address, has_width, is_again, line_fits, lines_fit, fits_of}
use Rattle.cif_stimulus.specs.Places.{may_follow}
use Rattle.cif_stim_read.specs.Reading.{IsFirst}
use Rattle.cif_stimulus.specs.StimulusText.{NumberedLine, Head, numbered, version_read, cycles_read, line_said, if_said, line_read, lines_read, after_version, after_skipped, stimulus_read, ◌and_then◌}
use Rattle.cif_stimulus.specs.declared.fault.StimFault.{StimFault}
use Rattle.cif_stimulus.specs.declared.fault.StimFault.TheVariants.{BadLine, NoSuchName, WrongWidth, NoCycles, TooManyCycles, SetTwice, BadAddress, Memory}
use Rattle.cif_stimulus.proofs.LineOrder.{both_true, first_true, second_true, reverse_before}
use Rattle.cif_stim_read.proofs.LineSteps.{by_tests, step_is}

-- ---- answers that go on

first_then : {A B : Type 0} (r : Result A StimFault) (next : A → Result B StimFault) (e : StimFault) → IsFirst r e → IsFirst (r and_then next) e
first_then {A} r next (BadLine n) h = ap (λ (x : Result A StimFault). x and_then next) h
first_then {A} r next (NoSuchName n) h = ap (λ (x : Result A StimFault). x and_then next) h
first_then {A} r next (WrongWidth n) h = ap (λ (x : Result A StimFault). x and_then next) h
first_then {A} r next NoCycles h = ap (λ (x : Result A StimFault). x and_then next) h
first_then {A} r next TooManyCycles h = ap (λ (x : Result A StimFault). x and_then next) h
first_then {A} r next (SetTwice n) h = ap (λ (x : Result A StimFault). x and_then next) h
first_then {A} r next (BadAddress n) h = ap (λ (x : Result A StimFault). x and_then next) h
first_then r next Memory h = tt

stimulus_first : (a b : Result StimulusData StimFault) (e : StimFault) → a ≡ b → IsFirst b e → IsFirst a e
stimulus_first a b (BadLine n) same h = same ∙ h
stimulus_first a b (NoSuchName n) same h = same ∙ h
stimulus_first a b (WrongWidth n) same h = same ∙ h
stimulus_first a b NoCycles same h = same ∙ h
stimulus_first a b TooManyCycles same h = same ∙ h
stimulus_first a b (SetTwice n) same h = same ∙ h
stimulus_first a b (BadAddress n) same h = same ∙ h
stimulus_first a b Memory same h = tt

-- ---- the first two lines

pub empty_text : (raw : Raw) (bytes : List ℕ) → bytes ≡ [] → stimulus_read raw bytes ≡ Err (BadLine 1)
unfolding stimulus_read
empty_text raw bytes h = ap (stimulus_read raw) h

some_text : (raw : Raw) (bytes : List ℕ) → 0 < length bytes → stimulus_read raw bytes ≡ after_skipped raw (numbered 1 (lines_of bytes))
unfolding stimulus_read
some_text raw [] h = absurd (omega arith)
some_text raw (b ∷ bs) h = refl

pub all_skipped : (raw : Raw) (bytes : List ℕ) → 0 < length bytes → numbered 1 (lines_of bytes) ≡ [] → stimulus_read raw bytes ≡ Err NoCycles
all_skipped raw bytes some h = some_text raw bytes some ∙ ap (after_skipped raw) h

pub wrong_version : (raw : Raw) (bytes : List ℕ) (first : NumberedLine) (rest : List NumberedLine) (e : StimFault) → 0 < length bytes → numbered 1 (lines_of bytes) ≡ first ∷ rest → IsFirst (version_read first) e → IsFirst (stimulus_read raw bytes) e
wrong_version raw bytes first rest e some h bad =
    stimulus_first _ _ e (some_text raw bytes some ∙ ap (after_skipped raw) h) (first_then (version_read first) (λ version. after_version raw version rest) e bad)

versioned : (raw : Raw) (bytes : List ℕ) (first : NumberedLine) (rest : List NumberedLine) (version : ℕ) → 0 < length bytes → numbered 1 (lines_of bytes) ≡ first ∷ rest → version_read first ≡ Ok version → stimulus_read raw bytes ≡ after_version raw version rest
versioned raw bytes first rest version some h ok =
    some_text raw bytes some ∙ ap (after_skipped raw) h ∙ ap (λ (r : Result ℕ StimFault). r and_then (λ v. after_version raw v rest)) ok

pub no_second : (raw : Raw) (bytes : List ℕ) (first : NumberedLine) (rest : List NumberedLine) (version : ℕ) → 0 < length bytes → numbered 1 (lines_of bytes) ≡ first ∷ rest → version_read first ≡ Ok version → rest ≡ [] → stimulus_read raw bytes ≡ Err NoCycles
no_second raw bytes first rest version some h ok none = versioned raw bytes first rest version some h ok ∙ ap (after_version raw version) none

abbrev goes_on : Raw → ℕ → List NumberedLine → ℕ → Result StimulusData StimFault
goes_on raw version rest cycles = lines_read raw (record { version = version; cycles = cycles }) [] rest and_then (λ lines. Ok (record { cycles = cycles; lines = lines }))

pub wrong_cycles : (raw : Raw) (bytes : List ℕ) (first second : NumberedLine) (rest more : List NumberedLine) (version : ℕ) (e : StimFault) → 0 < length bytes → numbered 1 (lines_of bytes) ≡ first ∷ rest → version_read first ≡ Ok version → rest ≡ second ∷ more → IsFirst (cycles_read second) e → IsFirst (stimulus_read raw bytes) e
wrong_cycles raw bytes first second rest more version e some h ok next bad =
    stimulus_first _ _ e (versioned raw bytes first rest version some h ok ∙ ap (after_version raw version) next) (first_then (cycles_read second) (goes_on raw version more) e bad)

pub both_lines : (raw : Raw) (bytes : List ℕ) (first second : NumberedLine) (rest more : List NumberedLine) (version cycles : ℕ) → 0 < length bytes → numbered 1 (lines_of bytes) ≡ first ∷ rest → version_read first ≡ Ok version → rest ≡ second ∷ more → cycles_read second ≡ Ok cycles → stimulus_read raw bytes ≡ goes_on raw version more cycles
both_lines raw bytes first second rest more version cycles some h ok next count =
    versioned raw bytes first rest version some h ok ∙ ap (after_version raw version) next ∙ ap (λ (r : Result ℕ StimFault). r and_then (goes_on raw version more)) count

-- ---- the whole text

pub text_first : (raw : Raw) (bytes : List ℕ) (lines : Result (List LineData) StimFault) (cycles : ℕ) (e : StimFault) → stimulus_read raw bytes ≡ lines and_then (λ ls. Ok (record { cycles = cycles; lines = ls })) → IsFirst lines e → IsFirst (stimulus_read raw bytes) e
text_first raw bytes lines cycles e h bad = stimulus_first _ _ e h (first_then lines (λ ls. Ok (record { cycles = cycles; lines = ls })) e bad)

pub text_ok : (raw : Raw) (bytes : List ℕ) (lines : Result (List LineData) StimFault) (cycles : ℕ) (s : StimulusData) → stimulus_read raw bytes ≡ lines and_then (λ ls. Ok (record { cycles = cycles; lines = ls })) → lines ≡ Ok s.lines → s.cycles ≡ cycles → stimulus_read raw bytes ≡ Ok s
text_ok raw bytes lines cycles s h read count =
    h ∙ ap (λ (r : Result (List LineData) StimFault). r and_then (λ ls. Ok (record { cycles = cycles; lines = ls }))) read
    ∙ ap (λ (k : ℕ). Ok (record { cycles = k; lines = s.lines })) (sym count)

-- ---- what is read fits

-- what both parts give, where all is read
abbrev Goes : {A B : Type 0} → Result A StimFault → (A → Result B StimFault) → B → Type 0
Goes {A} r next y = (x : A) × ((r ≡ Ok x) × (next x ≡ Ok y))

went_on : {A B : Type 0} (r : Result A StimFault) (next : A → Result B StimFault) (y : B) → (r and_then next) ≡ Ok y → Goes r next y
went_on (Ok x) next y h = (x, (refl, h))
went_on (Err e) next y h = absurd (cc)

tests_ok : (m n a w g : Bool) (number : ℕ) (x line : LineData) → by_tests m n a w g number x ≡ Ok line → (x ≡ line) × ((n && a && w && not g) ≡ true)
tests_ok false n a w g number x line h = absurd (cc)
tests_ok true false a w g number x line h = absurd (cc)
tests_ok true true false w g number x line h = absurd (cc)
tests_ok true true true false g number x line h = absurd (cc)
tests_ok true true true true true number x line h = absurd (cc)
tests_ok true true true true false number x line h = (cc, refl)

said_fits : (raw : Raw) (cycles : ℕ) (before : List LineData) (number : ℕ) (said : Option LineData) (line : LineData) → if_said raw cycles before number said ≡ Ok line → line_fits raw before line ≡ true
said_fits raw cycles before number None line h = absurd (cc)
said_fits raw cycles before number (Some x) line h =
    let ok = tests_ok (may_follow cycles before x) (has_name raw x) (has_address raw x) (has_width raw x) (is_again x before) number x line
    (sym (step_is raw cycles before number x _ _ _ _ _ refl refl refl refl refl) ∙ h) in
    ap (line_fits raw before) (sym ok.0) ∙ ok.1

line_read_fits : (raw : Raw) (head : Head) (before : List LineData) (l : NumberedLine) (line : LineData) → line_read raw head before l ≡ Ok line → line_fits raw before line ≡ true
unfolding line_read
line_read_fits raw head before l line h = said_fits raw head.cycles before l.number (line_said raw head.version l.words) line h

fit_by : (raw : Raw) (before xs : List LineData) (line : LineData) → lines_fit raw before xs ≡ true → line_fits raw (reverse xs ++ before) line ≡ true → lines_fit raw before (xs ++ line ∷ []) ≡ true
fit_by raw before [] line h fits = both_true (line_fits raw before line) true fits refl
fit_by raw before (x ∷ xs) line h fits =
    both_true (line_fits raw before x) (lines_fit raw (x ∷ before) (xs ++ line ∷ [])) (first_true (line_fits raw before x) (lines_fit raw (x ∷ before) xs) h)
    (fit_by raw (x ∷ before) xs line (second_true (line_fits raw before x) (lines_fit raw (x ∷ before) xs) h)
    (ap (λ (ys : List LineData). line_fits raw ys line) (sym (reverse_before x xs before)) ∙ fits))

fit_push : (raw : Raw) (before : List LineData) (line : LineData) → lines_fit raw [] (reverse before) ≡ true → line_fits raw before line ≡ true → lines_fit raw [] (reverse (line ∷ before)) ≡ true
fit_push raw before line h fits =
    ap (lines_fit raw []) (reverse-cons line before)
    ∙ fit_by raw [] (reverse before) line h
    (ap (λ (ys : List LineData). line_fits raw ys line) (append-nil (reverse (reverse before)) ∙ reverse-reverse before) ∙ fits)

lines_read_fit : (raw : Raw) (head : Head) (before : List LineData) (ls : List NumberedLine) (out : List LineData) → lines_read raw head before ls ≡ Ok out → lines_fit raw [] (reverse before) ≡ true → lines_fit raw [] out ≡ true
lines_read_fit raw head before [] out h fits = (let same : reverse before ≡ out = cc in ap (lines_fit raw []) (sym same) ∙ fits)
lines_read_fit raw head before (l ∷ ls) out h fits =
    let went = went_on (line_read raw head before l) (λ line. lines_read raw head (line ∷ before) ls) out h in
    lines_read_fit raw head (went.0 ∷ before) ls out went.1.1 (fit_push raw before went.0 fits (line_read_fits raw head before l went.0 went.1.0))

pub read_fits : (raw : Raw) (head : Head) (ls : List NumberedLine) (s : StimulusData) → lines_read raw head [] ls ≡ Ok s.lines → fits_of raw s ≡ true
unfolding fits_of
read_fits raw head ls s h = lines_read_fit raw head [] ls s.lines h refl
