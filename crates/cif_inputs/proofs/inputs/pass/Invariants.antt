use Rattle.std.proofs.Common.{◌≡◌, List, map}
use Rattle.cif_defs.specs.declared.nets.Wire.{Wire}
use Rattle.cif_stimulus.specs.Names.{target_of}
use Rattle.cif_stimulus.specs.StimulusView.{line_seen}
use Rattle.cif_inputs.specs.Cursor.{Passes}
use Rattle.cif_inputs.proofs.inputs.pass.Given as goal

abbrev pub invariant-loop-number : goal.invariant-loop-number
invariant-loop-number l = (ports : List Wire) → l.targets ≡ map (target_of ports) (map line_seen l.lines) → Passes ports (map line_seen l.lines) l.cycle l.fn.from l.fn.setters l.number l.setters
