use Rattle.std.proofs.Common.{ℕ, ◌≡◌, ◌||◌, drop, map}
use Rattle.cif_defs.specs.Words.{bit}
use Rattle.cif_defs.specs.Stimulus.{is_released}
use Rattle.cif_stimulus.specs.StimulusView.{line_seen}
use Rattle.cif_augment.proofs.released.released_marks.Given as goal

abbrev pub invariant-loop-line : goal.invariant-loop-line
invariant-loop-line l = (b : ℕ) → (is_released (map line_seen (drop l.line-index l.lines)) b || bit l.marks.items b) ≡ is_released (map line_seen l.lines) b
