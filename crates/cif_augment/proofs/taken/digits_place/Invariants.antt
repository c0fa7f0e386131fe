use Rattle.std.proofs.Common.{ℕ, ◌<◌, ◌≤◌, ◌≡◌, true, length, get_or}
use Rattle.std.specs.Char.{is_ascii_digit}
use Rattle.cif_augment.proofs.taken.digits_place.Given as goal

abbrev pub invariant-loop-place : goal.invariant-loop-place
invariant-loop-place l = record {
  within : l.place ≤ length l.name;
  digits : (k : ℕ) → l.place ≤ k → k < length l.name → is_ascii_digit (get_or l.name k 0) ≡ true;
}

abbrev pub decreases-loop-place : goal.decreases-loop-place
decreases-loop-place l = l.place
