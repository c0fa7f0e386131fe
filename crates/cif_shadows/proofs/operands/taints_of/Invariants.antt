use Rattle.std.proofs.Common.{◌≡◌, map, take}
use Rattle.cif_shadows.specs.Tables.{taint_of_source}
use Rattle.cif_shadows.proofs.operands.taints_of.Given as goal

abbrev pub invariant-loop-source : goal.invariant-loop-source
invariant-loop-source l = l.taints.items ≡ map (taint_of_source l.shadows) (take l.source-index l.sources)
