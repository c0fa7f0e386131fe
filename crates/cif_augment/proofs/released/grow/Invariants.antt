use Rattle.std.proofs.Common.{ℕ, ◌≡◌, ◌+◌, ◌-◌}
use Rattle.std.specs.Prelude.{vec_len}
use Rattle.cif_defs.specs.Words.{bit}
use Rattle.cif_augment.proofs.released.grow.Given as goal

abbrev pub invariant-loop-marks : goal.invariant-loop-marks
invariant-loop-marks l = (b : ℕ) → bit l.marks.items b ≡ bit l.initial.marks.items b

abbrev pub decreases-loop-marks : goal.decreases-loop-marks
decreases-loop-marks l = l.net + 1 - vec_len l.marks
