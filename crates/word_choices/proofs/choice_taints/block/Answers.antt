use Rattle.std.specs.Prelude.{◌≤◌, ◌*◌}
use Rattle.std.proofs.Common.{arith}
use Rattle.std.proofs.Math.Nat.{mul-le-mul_right}
use Rattle.word_choices.proofs.ChoiceValues.{block_fits}
use Rattle.word_choices.proofs.choice_taints.block.Goals as goal

pub cut-requires-clause-place : goal.cut-requires-clause-place
cut-requires-clause-place c = block_fits c.args.place c.args.chain.width c.args.chain.selects c.args.chain.some c.requires.place c.args.chain.limit

pub returns-clause-value : goal.returns-clause-value
returns-clause-value c = c.cut.ensures.value (c.args.chain.width * c.args.chain.selects) c.requires.within.value

pub returns-clause-taint : goal.returns-clause-taint
returns-clause-taint c = c.cut.ensures.taint (c.args.chain.width * c.args.chain.selects) c.requires.within.taint

pub returns-clause-few : goal.returns-clause-few
returns-clause-few c =
    let room : 1 * c.args.chain.selects ≤ c.args.chain.width * c.args.chain.selects = mul-le-mul_right c.args.chain.selects c.args.chain.some in
    omega (arith, c.args.chain.limit, c.requires.place)
