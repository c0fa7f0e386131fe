use Rattle.std.proofs.Common.{◌≡◌, ℕ, ◌<◌, [], length, get_or}
use Rattle.rule_check.proofs.modules.are_operands.Given as goal

-- the words before the index have the widths of their operands
abbrev pub invariant-loop-port : goal.invariant-loop-port
invariant-loop-port l = (k : ℕ) → k < l.port → length (get_or l.words k []) ≡ length (get_or l.operands k [])
