-- The script that a text gives for a netlist, or why it gives none: the first line that fails, by its number from 1 on; and
-- after all lines, whether they are too many.
use Rattle.std.specs.Prelude.{ℕ, nat_lt, nat_le, Bool, true, false, ◌&&◌, List, [], ◌∷◌, ◌++◌, length, codes, bytes_eq, position, Option, Some, None, is_some, unwrap_or, Result, Ok, Err, if◌then◌else◌}
use Rattle.std.specs.List.{list_any}
use Rattle.cif_defs.specs.Text.{lines_of}
use Rattle.cif_defs.specs.declared.nets.Wire.{Wire}
use Rattle.cif_defs.specs.declared.raw_module.Raw.{Raw}
use Rattle.cif_cells.specs.Finding.{FoundOf, a_wire, not_two_valued, missing, found_of}
use Rattle.cif_stimulus.specs.StimulusText.{NumberedLine, numbered}
use Rattle.cif_script.specs.LineForms.{line_said}
use Rattle.cif_script.specs.Scripts.{ScriptData, session_limit, script_limit, script_size}
use Rattle.cif_script.specs.declared.fault.ScriptFault.{ScriptFault}
use Rattle.cif_script.specs.declared.fault.ScriptFault.TheVariants.{BadLine, NoSuchName, NotTwoValued, TooManySessions, SameName, ScriptTooLarge}
use Rattle.cif_script.specs.declared.form.Said.{Said}
use Rattle.cif_script.specs.declared.form.Said.TheVariants as said
use Rattle.cif_script.specs.declared.session.Line.{Line}
use Rattle.cif_script.specs.declared.session.Line.TheVariants.{At, Next, Newest, Show}
use Rattle.cif_script.specs.declared.session.SessionScript.{SessionScript}

-- ---- a session that begins

-- whether one of some sessions has a name
abbrev pub is_begun : List ℕ → List SessionScript → Bool
is_begun name sessions = list_any (λ (s : SessionScript). bytes_eq s.name name) sessions

-- a session after those that are read, whose name is a new one, and which is at most the sixteenth
abbrev pub begun : ScriptData → ℕ → List ℕ → Result ScriptData ScriptFault
begun script number name =
    if is_begun name script.sessions then Err (SameName number) else
    if nat_le session_limit (length script.sessions) then Err TooManySessions else
    Ok (record { sessions = script.sessions ++ record { name = name; lines = [] } ∷ []; wires = script.wires })

-- ---- a line of the session that was begun last

-- sessions with one more line of the last
abbrev pub with_line : Line → List SessionScript → List SessionScript
with_line line [] = []
with_line line (s ∷ []) = record { name = s.name; lines = s.lines ++ line ∷ [] } ∷ []
with_line line (s ∷ t ∷ rest) = s ∷ with_line line (t ∷ rest)

abbrev pub asked : Line → ScriptData → ScriptData
asked line script = record { sessions = with_line line script.sessions; wires = script.wires }

-- the place of a name among wires
abbrev pub place_of : List Wire → List ℕ → Option ℕ
place_of wires name = position (λ (w : Wire). bytes_eq w.name name) wires

-- wires with one that is shown: one that wasn't shown before comes last
abbrev pub wires_with : List Wire → Wire → List Wire
wires_with wires w = if is_some (place_of wires w.name) then wires else wires ++ w ∷ []

-- the number of a wire that is shown
abbrev pub wire_number : List Wire → Wire → ℕ
wire_number wires w = unwrap_or (place_of wires w.name) (length wires)

abbrev pub shown : Wire → ScriptData → ScriptData
shown w script = record { sessions = with_line (Show (wire_number script.wires w)) script.sessions; wires = wires_with script.wires w }

-- what is shown is a wire
abbrev pub show_read : ScriptData → ℕ → FoundOf → Result ScriptData ScriptFault
show_read script number (a_wire w) = Ok (shown w script)
show_read script number not_two_valued = Err (NotTwoValued number)
show_read script number missing = Err (NoSuchName number)

-- ---- lines one after another

-- a line other than the beginning of a session stands in one
abbrev pub may_stand : ScriptData → Said → Bool
may_stand script (said.Session name) = true
may_stand script (said.At k) = nat_lt 0 (length script.sessions)
may_stand script said.Next = nat_lt 0 (length script.sessions)
may_stand script said.Newest = nat_lt 0 (length script.sessions)
may_stand script (said.Show name) = nat_lt 0 (length script.sessions)

-- what is read with a line that may stand there
abbrev pub said_read : Raw → ScriptData → ℕ → Said → Result ScriptData ScriptFault
said_read raw script number (said.Session name) = begun script number name
said_read raw script number (said.At k) = Ok (asked (At k) script)
said_read raw script number said.Next = Ok (asked Next script)
said_read raw script number said.Newest = Ok (asked Newest script)
said_read raw script number (said.Show name) = show_read script number (found_of raw name)

abbrev pub if_said : Raw → ScriptData → ℕ → Option Said → Result ScriptData ScriptFault
if_said raw script number None = Err (BadLine number)
if_said raw script number (Some line) = if may_stand script line then said_read raw script number line else Err (BadLine number)

-- a line after those that are read
unfoldable pub line_read : Raw → ScriptData → NumberedLine → Result ScriptData ScriptFault
line_read raw script l = if_said raw script l.number (line_said l.words)

-- goes on with what was read
infixr 20 ◌and_then◌
abbrev pub ◌and_then◌ : {A B : Type 0} → Result A ScriptFault → (A → Result B ScriptFault) → Result B ScriptFault
Ok x and_then next = next x
Err fault and_then next = Err fault

abbrev pub lines_read : Raw → ScriptData → List NumberedLine → Result ScriptData ScriptFault
lines_read raw script [] = Ok script
lines_read raw script (l ∷ lines) = line_read raw script l and_then (λ next. lines_read raw next lines)

-- ---- the whole text

-- `cellift-sessions 1`
abbrev pub is_title : List (List ℕ) → Bool
is_title (name ∷ version ∷ []) = bytes_eq name (codes "cellift-sessions") && bytes_eq version (codes "1")
is_title _ = false

abbrev pub no_sessions : ScriptData
no_sessions = record { sessions = []; wires = [] }

abbrev pub limited : ScriptData → Result ScriptData ScriptFault
limited script = if nat_lt script_limit (script_size script) then Err ScriptTooLarge else Ok script

abbrev pub after_skipped : Raw → List NumberedLine → Result ScriptData ScriptFault
after_skipped raw [] = Err (BadLine 1)
after_skipped raw (first ∷ rest) = if is_title first.words then (lines_read raw no_sessions rest and_then limited) else Err (BadLine first.number)

-- the script of a text
unfoldable pub script_of : Raw → List ℕ → Result ScriptData ScriptFault
script_of raw bytes = after_skipped raw (numbered 1 (lines_of bytes))
