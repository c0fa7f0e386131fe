use Rattle.std.proofs.Common.{ℕ, ◌≡◌, ◌<◌, ◌||◌, length, drop, map}
use Rattle.cif_defs.specs.Words.{bit}
use Rattle.cif_defs.specs.Stimulus.{is_released}
use Rattle.cif_stimulus.specs.StimulusView.{line_seen}
use Rattle.cif_seq.proofs.case.mark_lines.Given as goal

abbrev pub invariant-loop-line : goal.invariant-loop-line
invariant-loop-line l = (b : ℕ) → b < length l.marks → (is_released (map line_seen (drop l.line-index l.lines)) b || bit l.marks b) ≡ (is_released (map line_seen l.lines) b || bit l.initial.marks b)
