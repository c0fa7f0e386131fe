use Rattle.cif_shadows.proofs.OperandLaws.{AreCopied}
use Rattle.cif_shadows.proofs.operands.operand_pairs.Given as goal

abbrev pub invariant-loop-place : goal.invariant-loop-place
invariant-loop-place l = AreCopied l.ports l.operands l.shadows l.place l.pairs.items
