use Rattle.std.proofs.Common.{◌≡◌, drop, map}
use Rattle.cif_defs.specs.Stimulus.{held_by, unset}
use Rattle.cif_stimulus.specs.StimulusView.{line_seen}
use Rattle.cif_stimulus.specs.Held.{word_set_at}
use Rattle.cif_stimulus.proofs.walk.last_set.Given as goal

abbrev pub invariant-loop-number : goal.invariant-loop-number
invariant-loop-number l = held_by (map line_seen (drop l.number l.lines)) l.port l.cycle (word_set_at l.lines l.setter) ≡ held_by (map line_seen l.lines) l.port l.cycle unset
