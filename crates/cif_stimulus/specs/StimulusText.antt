-- The stimulus that a text gives for a netlist, or why it gives none: the first line that fails, by its number from 1 on.
use Rattle.std.specs.Prelude.{ℕ, suc, nat_lt, Bool, true, false, not, ◌&&◌, ◌==◌, List, [], ◌∷◌, ◌++◌, reverse, length, codes, bytes_eq, Option, Some, None, option_map, option_and_then, Result, Ok, Err, if◌then◌else◌}
use Rattle.std.specs.List.{list_all, list_any, flat_map}
use Rattle.std.specs.Fmt.{decimal}
use Rattle.cif_defs.specs.Words.{zeros}
use Rattle.cif_defs.specs.WordText.{word_of_text, text_of}
use Rattle.cif_defs.specs.RawModule.{is_binary}
use Rattle.cif_defs.specs.Stimulus.{Stimulus as StimulusData, StimLine as LineData, TaintedWord, reg_line, mem_line, release_line, cycle_line, set_line}
use Rattle.cif_defs.specs.Text.{lines_of, words_of, is_skipped, number_read, decoded, is_visible, coded, line_end}
use Rattle.cif_defs.specs.declared.nets.Src.{Src}
use Rattle.cif_defs.specs.declared.raw_module.Raw.{Raw}
use Rattle.cif_cells.specs.Finding.{FoundOf, a_wire, not_two_valued, missing, found_of}
use Rattle.cif_stimulus.specs.Fitting.{has_name, has_address, has_width, is_again}
use Rattle.cif_stimulus.specs.Places.{cycle_limit, may_follow}
use Rattle.cif_stimulus.specs.declared.fault.StimFault.{StimFault}
use Rattle.cif_stimulus.specs.declared.fault.StimFault.TheVariants.{BadLine, NoSuchName, WrongWidth, NoCycles, TooManyCycles, SetTwice, BadAddress}

-- ---- lines that count

-- a line by its number and its words
pub record NumberedLine : Type 0 where
  pub number : ℕ
  pub words : List (List ℕ)

-- the lines that aren't passed over, of lines that are numbered from n on
abbrev pub numbered : ℕ → List (List ℕ) → List NumberedLine
numbered n [] = []
numbered n (line ∷ lines) = if is_skipped line then numbered (suc n) lines else record { number = n; words = words_of line } ∷ numbered (suc n) lines

-- ---- what a line says, by its form

-- a word, highest bit first, and its taint; where no taint is given it is all 0
abbrev pub tainted_said : List (List ℕ) → Option TaintedWord
tainted_said (value ∷ []) = if is_binary value then Some (record { value = word_of_text value; taint = zeros (length value) }) else None
tainted_said (value ∷ taint ∷ []) = if is_binary value && is_binary taint then Some (record { value = word_of_text value; taint = word_of_text taint }) else None
tainted_said _ = None

-- `reg CELL WORD [TAINT]`
abbrev pub reg_said : List (List ℕ) → Option LineData
reg_said (cell ∷ rest) = option_and_then (λ name. option_map (λ w. reg_line name w) (tainted_said rest)) (decoded cell)
reg_said _ = None

-- `mem CELL ADDRESS WORD [TAINT]`
abbrev pub mem_said : List (List ℕ) → Option LineData
mem_said (cell ∷ address ∷ rest) = option_and_then (λ name. option_and_then (λ a. option_map (λ w. mem_line name a w) (tainted_said rest)) (number_read address)) (decoded cell)
mem_said _ = None

-- `set PORT WORD [TAINT]`
abbrev pub set_said : List (List ℕ) → Option LineData
set_said (port ∷ rest) = option_and_then (λ name. option_map (λ w. set_line name w) (tainted_said rest)) (decoded port)
set_said _ = None

abbrev pub found_bits : FoundOf → List Src
found_bits (a_wire w) = w.bits
found_bits not_two_valued = []
found_bits missing = []

-- `release NAME`, with the bits of the wire that the name stands for
abbrev pub release_said : Raw → List (List ℕ) → Option LineData
release_said raw (name ∷ []) = option_map (λ n. release_line n (found_bits (found_of raw n))) (decoded name)
release_said raw _ = None

-- `@ K`
abbrev pub cycle_said : List (List ℕ) → Option LineData
cycle_said (k ∷ []) = option_map (λ j. cycle_line j) (number_read k)
cycle_said _ = None

-- the line that a verb and the words after it say; only version 2 knows `release`
abbrev pub said_by : Raw → ℕ → List ℕ → List (List ℕ) → Option LineData
said_by raw version verb rest =
    if bytes_eq verb (codes "reg") then reg_said rest else
    if bytes_eq verb (codes "mem") then mem_said rest else
    if bytes_eq verb (codes "release") && version == 2 then release_said raw rest else
    if bytes_eq verb (codes "@") then cycle_said rest else
    if bytes_eq verb (codes "set") then set_said rest else None

-- the line that some words say; a word has bytes from 33 to 126 alone
unfoldable pub line_said : Raw → ℕ → List (List ℕ) → Option LineData
line_said raw version [] = None
line_said raw version (verb ∷ rest) = if list_all (list_all is_visible) (verb ∷ rest) then said_by raw version verb rest else None

-- ---- lines one after another

-- the first two lines
pub record Head : Type 0 where
  pub version : ℕ
  pub cycles : ℕ

-- why a line that was said fails after those before it, of which the nearest comes first
abbrev pub line_fault : Raw → List LineData → ℕ → LineData → Option StimFault
line_fault raw before number line =
    if not (has_name raw line) then Some (NoSuchName number) else
    if not (has_address raw line) then Some (BadAddress number) else
    if not (has_width raw line) then Some (WrongWidth number) else
    if is_again line before then Some (SetTwice number) else None

abbrev pub unless : {A : Type 0} → Option StimFault → A → Result A StimFault
unless None x = Ok x
unless (Some fault) x = Err fault

abbrev pub if_said : Raw → ℕ → List LineData → ℕ → Option LineData → Result LineData StimFault
if_said raw cycles before number None = Err (BadLine number)
if_said raw cycles before number (Some line) = if may_follow cycles before line then unless (line_fault raw before number line) line else Err (BadLine number)

-- a line after those before it
unfoldable pub line_read : Raw → Head → List LineData → NumberedLine → Result LineData StimFault
line_read raw head before l = if_said raw head.cycles before l.number (line_said raw head.version l.words)

-- goes on with what was read
infixr 20 ◌and_then◌
abbrev pub ◌and_then◌ : {A B : Type 0} → Result A StimFault → (A → Result B StimFault) → Result B StimFault
Ok x and_then next = next x
Err fault and_then next = Err fault

-- the lines after the first two
abbrev pub lines_read : Raw → Head → List LineData → List NumberedLine → Result (List LineData) StimFault
lines_read raw head before [] = Ok (reverse before)
lines_read raw head before (l ∷ lines) = line_read raw head before l and_then (λ line. lines_read raw head (line ∷ before) lines)

-- ---- the first two lines

-- `cellift-stimulus 1` or `cellift-stimulus 2`
abbrev pub version_said : List (List ℕ) → Option ℕ
version_said (name ∷ version ∷ []) =
    if bytes_eq name (codes "cellift-stimulus") then
    (if bytes_eq version (codes "1") then Some 1 else if bytes_eq version (codes "2") then Some 2 else None) else None
version_said _ = None

-- `cycles N`
abbrev pub cycles_said : List (List ℕ) → Option ℕ
cycles_said (verb ∷ count ∷ []) = if bytes_eq verb (codes "cycles") then number_read count else None
cycles_said _ = None

abbrev pub version_read : NumberedLine → Result ℕ StimFault
version_read l = needed l.number (version_said l.words) where
  needed : ℕ → Option ℕ → Result ℕ StimFault
  needed number None = Err (BadLine number)
  needed number (Some version) = Ok version

-- from 1 to 1,000,000 cycles
abbrev pub cycles_read : NumberedLine → Result ℕ StimFault
cycles_read l = limited l.number (cycles_said l.words) where
  limited : ℕ → Option ℕ → Result ℕ StimFault
  limited number None = Err (BadLine number)
  limited number (Some count) = if count == 0 then Err NoCycles else if nat_lt cycle_limit count then Err TooManyCycles else Ok count

-- ---- the whole text

abbrev pub after_version : Raw → ℕ → List NumberedLine → Result StimulusData StimFault
after_version raw version [] = Err NoCycles
after_version raw version (second ∷ rest) =
    cycles_read second and_then (λ cycles.
    lines_read raw (record { version = version; cycles = cycles }) [] rest and_then (λ lines.
    Ok (record { cycles = cycles; lines = lines })))

abbrev pub after_skipped : Raw → List NumberedLine → Result StimulusData StimFault
after_skipped raw [] = Err NoCycles
after_skipped raw (first ∷ rest) = version_read first and_then (λ version. after_version raw version rest)

-- the stimulus of a text; an empty text has no first line
unfoldable pub stimulus_read : Raw → List ℕ → Result StimulusData StimFault
stimulus_read raw [] = Err (BadLine 1)
stimulus_read raw (b ∷ bytes) = after_skipped raw (numbered 1 (lines_of (b ∷ bytes)))

-- ---- and its text

-- ` VALUE TAINT`, and the end of the line
abbrev pub tainted_text : TaintedWord → List ℕ
tainted_text w = codes " " ++ text_of w.value ++ codes " " ++ text_of w.taint ++ line_end ∷ []

abbrev pub line_text : LineData → List ℕ
line_text (reg_line cell w) = codes "reg " ++ coded cell ++ tainted_text w
line_text (mem_line cell address w) = codes "mem " ++ coded cell ++ codes " " ++ decimal address ++ tainted_text w
line_text (release_line name bits) = codes "release " ++ coded name ++ line_end ∷ []
line_text (cycle_line k) = codes "@ " ++ decimal k ++ line_end ∷ []
line_text (set_line port w) = codes "set " ++ coded port ++ tainted_text w

abbrev pub is_release : LineData → Bool
is_release (release_line name bits) = true
is_release (reg_line name w) = false
is_release (mem_line name address w) = false
is_release (cycle_line k) = false
is_release (set_line name w) = false

-- version 2 exactly where something is released
abbrev pub version_of : StimulusData → ℕ
version_of s = if list_any is_release s.lines then 2 else 1

-- the text that is written of a stimulus
unfoldable pub stimulus_text : StimulusData → List ℕ
stimulus_text s =
    codes "cellift-stimulus " ++ decimal (version_of s) ++ line_end ∷
    codes "cycles " ++ decimal s.cycles ++ line_end ∷ flat_map line_text s.lines
