use Rattle.std.specs.Prelude.{◌≤◌}
use Rattle.std.proofs.Common.{arith}
use Rattle.rule_select.proofs.StageSteps.{few_selects}
use Rattle.word_choices.proofs.choices.all_bits.Goals as goal

pub overflow_shl-result : goal.overflow_shl-result
overflow_shl-result c = let few : c.args.blocks.selects ≤ 16 = few_selects c.args.blocks.width c.args.blocks.selects c.args.blocks.some (omega (arith, c.args.blocks.limit)) in omega arith
