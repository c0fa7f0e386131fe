-- Whether the lines of a stimulus have come to a group of sets.
use Rattle.std.specs.Prelude.{ℕ, ◌≡◌, reverse, Some, None}
use Rattle.cif_defs.specs.Stimulus.{Stimulus as StimulusData}
use Rattle.cif_stimulus.specs.Places.{open_cycle}

-- no group has begun
abbrev pub IsUnbegun : StimulusData → Type 0
IsUnbegun s = open_cycle (reverse s.lines) ≡ None

-- the last group is that of cycle k
abbrev pub IsAt : ℕ → StimulusData → Type 0
IsAt k s = open_cycle (reverse s.lines) ≡ Some k
