-- A line, and a whole text, by what they are read as.
use Rattle.std.specs.Prelude.{ℕ, ◌≡◌, nat_lt, Bool, true, false, List, [], ◌∷◌, Option, Some, None, Result, Ok, Err}
use Rattle.std.proofs.Common.{sym, ap, ◌∙◌, if◌then◌else◌}
use Rattle.cif_defs.specs.Text.{lines_of}
use Rattle.cif_defs.specs.declared.raw_module.Raw.{Raw}
use Rattle.cif_stimulus.specs.StimulusText.{NumberedLine, numbered}
use Rattle.cif_script.specs.LineForms.{line_said}
use Rattle.cif_script.specs.Scripts.{ScriptData, script_limit, script_size}
use Rattle.cif_script.specs.ScriptText.{may_stand, said_read, if_said, line_read, lines_read, is_title, no_sessions, limited, after_skipped, script_of, ◌and_then◌}
use Rattle.cif_script.specs.Seen.{IsFirst}
use Rattle.cif_script.specs.declared.fault.ScriptFault.{ScriptFault}
use Rattle.cif_script.specs.declared.fault.ScriptFault.TheVariants.{BadLine, NoSuchName, NotTwoValued, TooManySessions, SameName, ScriptTooLarge, Memory}
use Rattle.cif_script.specs.declared.form.Said.{Said}

-- ---- a line

pub unsaid : (raw : Raw) (script : ScriptData) (number : ℕ) (words : List (List ℕ)) (line : Option Said) → line ≡ line_said words → line ≡ None → line_read raw script (record { number = number; words = words }) ≡ Err (BadLine number)
unfolding line_read
unsaid raw script number words line is none = ap (if_said raw script number) (sym is ∙ none)

line_by : (raw : Raw) (script : ScriptData) (number : ℕ) (words : List (List ℕ)) (line : Option Said) (said : Said) (may : Bool) → line ≡ line_said words → line ≡ Some said → may_stand script said ≡ may
    → line_read raw script (record { number = number; words = words }) ≡ (if may then said_read raw script number said else Err (BadLine number))
unfolding line_read
line_by raw script number words line said may is some test =
    ap (if_said raw script number) (sym is ∙ some)
    ∙ ap (λ b. if b then said_read raw script number said else Err (BadLine number)) test

pub misplaced : (raw : Raw) (script : ScriptData) (number : ℕ) (words : List (List ℕ)) (line : Option Said) (said : Said) → line ≡ line_said words → line ≡ Some said → may_stand script said ≡ false
    → line_read raw script (record { number = number; words = words }) ≡ Err (BadLine number)
misplaced raw script number words line said is some test = line_by raw script number words line said false is some test

pub stands : (raw : Raw) (script : ScriptData) (number : ℕ) (words : List (List ℕ)) (line : Option Said) (said : Said) → line ≡ line_said words → line ≡ Some said → may_stand script said ≡ true
    → said_read raw script number said ≡ line_read raw script (record { number = number; words = words })
stands raw script number words line said is some test = sym (line_by raw script number words line said true is some test)

-- ---- a text

pub all_skipped : (raw : Raw) (bytes : List ℕ) → numbered 1 (lines_of bytes) ≡ [] → script_of raw bytes ≡ Err (BadLine 1)
unfolding script_of
all_skipped raw bytes h = ap (after_skipped raw) h

title_by : (raw : Raw) (bytes : List ℕ) (first : NumberedLine) (rest : List NumberedLine) (titled : Bool) → numbered 1 (lines_of bytes) ≡ first ∷ rest → is_title first.words ≡ titled
    → script_of raw bytes ≡ (if titled then (lines_read raw no_sessions rest and_then limited) else Err (BadLine first.number))
unfolding script_of
title_by raw bytes first rest titled h test =
    ap (after_skipped raw) h
    ∙ ap (λ b. if b then (lines_read raw no_sessions rest and_then limited) else Err (BadLine first.number)) test

pub untitled : (raw : Raw) (bytes : List ℕ) (first : NumberedLine) (rest : List NumberedLine) → numbered 1 (lines_of bytes) ≡ first ∷ rest → is_title first.words ≡ false → script_of raw bytes ≡ Err (BadLine first.number)
untitled raw bytes first rest h test = title_by raw bytes first rest false h test

first_through : {A B : Type 0} (r : Result A ScriptFault) (next : A → Result B ScriptFault) (fault : ScriptFault) → IsFirst r fault → IsFirst (r and_then next) fault
first_through r next (BadLine n) h = ap (λ x. x and_then next) h
first_through r next (NoSuchName n) h = ap (λ x. x and_then next) h
first_through r next (NotTwoValued n) h = ap (λ x. x and_then next) h
first_through r next TooManySessions h = ap (λ x. x and_then next) h
first_through r next (SameName n) h = ap (λ x. x and_then next) h
first_through r next ScriptTooLarge h = ap (λ x. x and_then next) h
first_through r next Memory h = h

pub stopped : (raw : Raw) (bytes : List ℕ) (first : NumberedLine) (rest : List NumberedLine) (fault : ScriptFault) → numbered 1 (lines_of bytes) ≡ first ∷ rest → is_title first.words ≡ true → IsFirst (lines_read raw no_sessions rest) fault → IsFirst (script_of raw bytes) fault
stopped raw bytes first rest fault h test is =
    rw (title_by raw bytes first rest true h test) (first_through (lines_read raw no_sessions rest) limited fault is)

size_by : (raw : Raw) (bytes : List ℕ) (first : NumberedLine) (rest : List NumberedLine) (script : ScriptData) (large : Bool) → numbered 1 (lines_of bytes) ≡ first ∷ rest → is_title first.words ≡ true → lines_read raw no_sessions rest ≡ Ok script → nat_lt script_limit (script_size script) ≡ large
    → script_of raw bytes ≡ (if large then Err ScriptTooLarge else Ok script)
size_by raw bytes first rest script large h test read size =
    title_by raw bytes first rest true h test
    ∙ ap (λ r. r and_then limited) read
    ∙ ap (λ b. if b then Err ScriptTooLarge else Ok script) size

pub too_large : (raw : Raw) (bytes : List ℕ) (first : NumberedLine) (rest : List NumberedLine) (script : ScriptData) → numbered 1 (lines_of bytes) ≡ first ∷ rest → is_title first.words ≡ true → lines_read raw no_sessions rest ≡ Ok script → nat_lt script_limit (script_size script) ≡ true → script_of raw bytes ≡ Err ScriptTooLarge
too_large raw bytes first rest script h test read size = size_by raw bytes first rest script true h test read size

pub all_read : (raw : Raw) (bytes : List ℕ) (first : NumberedLine) (rest : List NumberedLine) (script : ScriptData) → numbered 1 (lines_of bytes) ≡ first ∷ rest → is_title first.words ≡ true → lines_read raw no_sessions rest ≡ Ok script → nat_lt script_limit (script_size script) ≡ false → script_of raw bytes ≡ Ok script
all_read raw bytes first rest script h test read size = size_by raw bytes first rest script false h test read size
