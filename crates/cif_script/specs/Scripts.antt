-- Scripts: sessions, and the wires that their lines show.
use Rattle.std.specs.Prelude.{ℕ, ◌+◌, ◌*◌, ◌≡◌, ◌≤◌, nat_lt, Bool, true, List, length, get_or}
use Rattle.std.specs.List.{list_all, sum_by}
use Rattle.cif_defs.specs.Netlist.{no_wire}
use Rattle.cif_defs.specs.Text.{coded}
use Rattle.cif_defs.specs.declared.nets.Wire.{Wire}
use Rattle.cif_script.specs.declared.session.Line.{Line}
use Rattle.cif_script.specs.declared.session.Line.TheVariants.{At, Next, Newest, Show}
use Rattle.cif_script.specs.declared.session.SessionScript.{SessionScript}

-- a line shows a wire by its number
pub record ScriptData : Type 0 where
  pub sessions : List SessionScript
  pub wires : List Wire

abbrev pub wire_at : List Wire → ℕ → Wire
wire_at wires number = get_or wires number no_wire

-- ---- what numbers name is there

abbrev pub is_line_inside : ℕ → Line → Bool
is_line_inside count (Show number) = nat_lt number count
is_line_inside count (At k) = true
is_line_inside count Next = true
is_line_inside count Newest = true

-- each line of a session that shows a wire shows one of so many
abbrev pub is_inside : ℕ → SessionScript → Bool
is_inside count session = list_all (is_line_inside count) session.lines

abbrev pub session_limit : ℕ
session_limit = 16

-- no more than 16 sessions, and each number names a wire
pub record IsKept (script : ScriptData) : Type 0 where
  pub few : length script.sessions ≤ session_limit
  pub inside : list_all (is_inside (length script.wires)) script.sessions ≡ true

-- ---- sizes

-- the most that the lines of a script count together
abbrev pub script_limit : ℕ
script_limit = 268435456

-- what a line that shows nothing counts
abbrev pub plain_size : ℕ
plain_size = 96

-- two bytes for each bit of a wire that is shown, one for each byte of its coded name, and 16
abbrev pub line_size : List Wire → Line → ℕ
line_size wires (Show number) = 2 * length (wire_at wires number).bits + length (coded (wire_at wires number).name) + 16
line_size wires (At k) = plain_size
line_size wires Next = plain_size
line_size wires Newest = plain_size

-- the line that begins a session, and the session's lines
abbrev pub session_size : List Wire → SessionScript → ℕ
session_size wires session = plain_size + sum_by (line_size wires) session.lines

-- the title, and all sessions
unfoldable pub script_size : ScriptData → ℕ
script_size script = plain_size + sum_by (session_size script.wires) script.sessions
