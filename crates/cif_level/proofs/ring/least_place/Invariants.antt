use Rattle.std.proofs.Common.{ℕ, ◌<◌, ◌≤◌, length, get_or}
use Rattle.cif_level.proofs.ring.least_place.Given as goal

abbrev pub invariant-loop-place : goal.invariant-loop-place
invariant-loop-place l = record {
  in_range : l.least < length l.numbers;
  least : (j : ℕ) → j < l.place → get_or l.numbers l.least 0 ≤ get_or l.numbers j 0;
}
