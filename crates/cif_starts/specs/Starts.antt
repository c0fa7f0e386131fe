-- The lines of a stimulus that say what registers and memories start with, cell by cell.
use Rattle.std.specs.Prelude.{ℕ, ◌+◌, ◌-◌, ◌<◌, ◌≤◌, ◌≡◌, Bool, true, false, List, [], drop, length, get_or, bytes_eq, Option, Some, None}
use Rattle.std.specs.List.{position_from}
use Rattle.cif_defs.specs.Words.{bit}
use Rattle.cif_defs.specs.Cells.{Cell, state_bits}
use Rattle.cif_defs.specs.Netlist.{Netlist, no_cell}
use Rattle.cif_defs.specs.Stimulus.{Stimulus, StimLine, TaintedWord, reg_line, mem_line, release_line, cycle_line, set_line, started_by}
use Rattle.cif_stimulus.specs.Names.{line_at}
use Rattle.cif_starts.specs.declared.starts.StartLines.{StartLines}

-- whether a line says what a register or a memory of a name starts with
abbrev pub starts_named : List ℕ → StimLine → Bool
starts_named q (reg_line name w) = bytes_eq name q
starts_named q (mem_line name address w) = bytes_eq name q
starts_named q (release_line name bits) = false
starts_named q (cycle_line k) = false
starts_named q (set_line name w) = false

-- the place of the first such line of a list of lines that begins at place i
abbrev pub start_from : ℕ → List StimLine → List ℕ → Option ℕ
start_from i lines q = position_from (starts_named q) i lines

-- the lines of a name from place i on, one after another: the first, and for each the next
pub record IsChainFrom (lines : List StimLine) (q : List ℕ) (i : ℕ) (first : Option ℕ) (following : List (Option ℕ)) : Type 0 where
  pub found : first ≡ start_from i (drop i lines) q
  pub chained : (j : ℕ) → i ≤ j → starts_named q (line_at lines j) ≡ true → get_or following j None ≡ start_from (j + 1) (drop (j + 1) lines) q

-- a table of the lines from place i on: those of each cell, one after another
pub record IsTableFrom (cells : List Cell) (lines : List StimLine) (i : ℕ) (table : StartLines) : Type 0 where
  pub as_many_cells : length table.first.items ≡ length cells
  pub as_many_lines : length table.following.items ≡ length lines
  pub chains : (c : ℕ) → c < length cells → IsChainFrom lines (get_or cells c no_cell).name i (get_or table.first.items c None) table.following.items

-- the table of a stimulus's lines for a netlist
abbrev pub IsTableOf : Netlist → Stimulus → StartLines → Type 0
IsTableOf n s table = IsTableFrom n.cells s.lines 0 table

-- the lines from a place on; none where there is no place
abbrev pub rest_from : List StimLine → Option ℕ → List StimLine
rest_from lines None = []
rest_from lines (Some i) = drop i lines

-- how many lines are left from a place on
abbrev pub lines_left : ℕ → Option ℕ → ℕ
lines_left n None = 0
lines_left n (Some i) = n - i

-- two words with their taints are the same in their first n bits
pub record SameBits (n : ℕ) (u v : TaintedWord) : Type 0 where
  pub value : (i : ℕ) → i < n → bit u.value i ≡ bit v.value i
  pub taint : (i : ℕ) → i < n → bit u.taint i ≡ bit v.taint i

-- a line of a cell at a place
pub record StartsAt (lines : List StimLine) (q : List ℕ) (i : ℕ) : Type 0 where
  pub inside : i < length lines
  pub named : starts_named q (line_at lines i) ≡ true

-- what the lines from a place on make of a word is what all of them make of what was given
pub record StartedTo (lines : List StimLine) (c : Cell) (given : TaintedWord) (at : Option ℕ) (now : TaintedWord) : Type 0 where
  pub place : (i : ℕ) → at ≡ Some i → StartsAt lines c.name i
  pub same : SameBits (state_bits c) (started_by lines c given) (started_by (rest_from lines at) c now)
