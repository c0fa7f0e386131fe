-- The operands that were copied so far.
use Rattle.std.proofs.Common.{◌≡◌, take}
use Rattle.cif_next_taints.proofs.operands.followed_by.Given as goal

abbrev pub invariant-loop-operand : goal.invariant-loop-operand
invariant-loop-operand l = l.all.items ≡ take l.operand-index l.operands
