use Rattle.std.proofs.Common.{◌≡◌, ◌≤◌, map, reverse, take, length}
use Rattle.cif_stimulus.specs.StimulusView.{line_seen}
use Rattle.cif_stimulus.specs.Fitting.{is_set_among}
use Rattle.cif_stimulus.proofs.fitting.is_set.Given as goal

abbrev pub invariant-loop-end : goal.invariant-loop-end
invariant-loop-end l = (l.end ≤ length l.lines) × (is_set_among l.name (reverse (map line_seen (take l.end l.lines))) ≡ is_set_among l.name (reverse (map line_seen l.lines)))

abbrev pub decreases-loop-end : goal.decreases-loop-end
decreases-loop-end l = l.end
