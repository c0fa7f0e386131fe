-- What the fields of a `Stimulus` hold.
use Rattle.std.specs.Prelude.{ℕ, ◌≤◌, ◌≡◌, false, List, map, length, drop}
use Rattle.std.specs.List.{list_any}
use Rattle.cif_defs.specs.Stimulus.{Stimulus as StimulusData}
use Rattle.cif_stimulus.specs.Places.{IsOrdered}
use Rattle.cif_stimulus.specs.StimulusView.{line_seen, is_start}
use Rattle.cif_stimulus.specs.declared.line.StimLine.{StimLine}
use Rattle.cif_stimulus.specs.declared.stimulus.Stimulus.TheInside.{Inside}

abbrev pub stimulus_seen : Inside → StimulusData
stimulus_seen s = record { cycles = s.cycles; lines = map line_seen s.lines.items }

-- from place n on, no line says what a register or a memory starts with
pub record StartsBefore (n : ℕ) (lines : List StimLine) : Type 0 where
  pub inside : n ≤ length lines
  pub later : list_any is_start (drop n lines) ≡ false

-- the lines are ordered, and those that name registers and memories come first
pub record IsKept (s : Inside) : Type 0 where
  pub starts : StartsBefore s.starts s.lines.items
  pub ordered : IsOrdered (stimulus_seen s)
