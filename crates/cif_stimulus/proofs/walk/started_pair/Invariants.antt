use Rattle.std.proofs.Common.{map, take}
use Rattle.cif_stimulus.specs.StimulusView.{line_seen}
use Rattle.cif_stimulus.specs.Held.{Starts}
use Rattle.cif_stimulus.proofs.walk.started_pair.Given as goal

abbrev pub invariant-loop-line : goal.invariant-loop-line
invariant-loop-line l = Starts (map line_seen (take l.line-index l.lines)) l.owner l.index l.fn.given l.pair
