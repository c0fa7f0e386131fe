use Rattle.cif_parts.specs.Joining.{Copies, IsOutputBefore}
use Rattle.cif_parts.proofs.join.copy_outputs.Given as goal

abbrev pub invariant-loop-targets : goal.invariant-loop-targets
invariant-loop-targets l = Copies l.from l.fn.to l.to (IsOutputBefore l.outputs l.targets-index)
