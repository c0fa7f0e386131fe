-- How far a maker has come, as its counts say.
use Rattle.std.specs.Prelude.{ℕ, ◌+◌, ◌<◌, ◌≤◌, List, length, slice_index, Option}
use Rattle.std.specs.List.Sorted.{IsStrictlyIncreasing}
use Rattle.cif_emit.specs.Makers.{Maker}
use Rattle.cif_emit.specs.declared.names.Counts.{Counts}

abbrev pub maker_from : List ℕ → Option (List ℕ) → Counts → Maker
maker_from used cell counts = record { used = used; next = counts.next; handed = counts.handed; cell = cell; made = counts.made }

-- the first `passed` of the used numbers are those below the next one to look at
pub record AreCounts (used : List ℕ) (counts : Counts) : Type 0 where
  pub rising : IsStrictlyIncreasing used
  pub inside : counts.passed ≤ length used
  pub below : (k : ℕ) → k < counts.passed → slice_index used k < counts.next
  pub few : counts.next ≤ 2 + counts.handed + counts.passed
