use Rattle.std.proofs.Common.{◌≡◌, map, reverse, take, drop, []}
use Rattle.cif_stimulus.specs.StimulusView.{line_seen}
use Rattle.cif_stimulus.specs.Fitting.{lines_fit}
use Rattle.cif_stimulus.proofs.fitting.lines_fit.Given as goal

abbrev pub invariant-loop-number : goal.invariant-loop-number
invariant-loop-number l = lines_fit l.netlist (reverse (map line_seen (take l.number l.lines))) (map line_seen (drop l.number l.lines)) ≡ lines_fit l.netlist [] (map line_seen l.lines)
