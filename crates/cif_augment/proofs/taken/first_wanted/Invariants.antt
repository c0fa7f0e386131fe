use Rattle.std.proofs.Common.{ℕ, ◌<◌, ◌≡◌, false}
use Rattle.cif_augment.specs.Taken.{is_seen_taken}
use Rattle.cif_augment.proofs.taken.first_wanted.Given as goal

abbrev pub invariant-loop-place : goal.invariant-loop-place
invariant-loop-place l = (k : ℕ) → k < l.place → is_seen_taken l.raw l.wanted k ≡ false
