-- There are few select bits.
use Rattle.std.specs.Prelude.{◌≤◌}
use Rattle.std.proofs.Common.{arith}
use Rattle.rule_select.proofs.StageSteps.{few_selects}
use Rattle.rule_select.proofs.moves.scaled.Goals as goal

pub overflow_shl-result : goal.overflow_shl-result
overflow_shl-result c = let few : c.args.select ≤ 16 = few_selects c.args.width c.args.select c.requires.some c.requires.few in omega arith
