use Rattle.std.proofs.Common.{take}
use Rattle.cif_shadows.specs.Tables.{AreSet, input_targets}
use Rattle.cif_shadows.proofs.table.Shadows.set_input.Given as goal

abbrev pub invariant-loop-place : goal.invariant-loop-place
invariant-loop-place l = AreSet (take l.place (input_targets l.port)) (take l.place l.bits) l.initial.self l.self
