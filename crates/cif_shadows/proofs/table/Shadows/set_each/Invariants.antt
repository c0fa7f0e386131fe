use Rattle.std.proofs.Common.{take}
use Rattle.cif_shadows.specs.Tables.{AreSet}
use Rattle.cif_shadows.proofs.table.Shadows.set_each.Given as goal

abbrev pub invariant-loop-place : goal.invariant-loop-place
invariant-loop-place l = AreSet (take l.place l.targets) (take l.place l.bits) l.initial.self l.self
