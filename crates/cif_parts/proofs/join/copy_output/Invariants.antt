use Rattle.cif_parts.specs.Joining.{Copies, IsTargetBefore}
use Rattle.cif_parts.proofs.join.copy_output.Given as goal

abbrev pub invariant-loop-target : goal.invariant-loop-target
invariant-loop-target l = Copies l.from l.fn.to l.to (IsTargetBefore l.targets l.target-index)
