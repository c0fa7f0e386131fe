use Rattle.std.proofs.Common.{ℕ, List, length, ◌-◌, ◌+◌, ◌<◌, ◌≤◌, ◌≡◌, get_or, true}
use Rattle.cif_checks.specs.Checks.{has_number}
use Rattle.cif_emit.proofs.names.least_unused.Given as goal

pub record IsPassed (used : List ℕ) (from passed number place : ℕ) : Type 0 where
  pub later : from ≤ number
  pub after : passed ≤ place
  pub inside : place ≤ length used
  pub below : (k : ℕ) → k < place → get_or used k 0 < number
  pub least : (x : ℕ) → from ≤ x → x < number → has_number x used ≡ true
  pub few : number + passed ≤ from + place

abbrev pub invariant-loop-place : goal.invariant-loop-place
invariant-loop-place l = IsPassed l.used l.from l.passed l.number l.place

abbrev pub decreases-loop-place : goal.decreases-loop-place
decreases-loop-place l = length l.used - l.place
