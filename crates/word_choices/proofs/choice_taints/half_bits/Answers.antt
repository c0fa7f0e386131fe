use Rattle.std.specs.Prelude.{◌≤◌, ◌+◌, ◌*◌, ◌^◌, ◌≡◌}
use Rattle.std.proofs.Common.{arith, ap}
use Rattle.rule_select.proofs.StageSteps.{few_selects}
use Rattle.rule_select.proofs.BlockTrees.{scaled_most, scaled_some}
use Rattle.word_choices.proofs.ChoiceValues.{next_power}
use Rattle.word_choices.proofs.choice_taints.half_bits.Goals as goal

pub power-requires : goal.power-requires
power-requires c = let few : c.args.blocks.selects ≤ 16 = few_selects c.args.blocks.width c.args.blocks.selects c.args.blocks.some (omega (arith, c.args.blocks.limit)) in omega (arith, c.requires)

pub overflow_mul-result : goal.overflow_mul-result
overflow_mul-result c =
    let same : c.args.blocks.width * c.power.result ≡ c.args.blocks.width * 2 ^ c.args.place = ap (λ k. c.args.blocks.width * k) c.power.ensures in
    let most : c.args.blocks.width * 2 ^ c.args.place ≤ c.args.blocks.width * 2 ^ c.args.blocks.selects = scaled_most c.args.blocks.width c.args.place c.args.blocks.selects (omega (arith, c.requires)) in
    omega (arith, c.args.blocks.limit)

pub returns-clause-value : goal.returns-clause-value
returns-clause-value c = ap (λ k. c.args.blocks.width * k) c.power.ensures

pub returns-clause-some : goal.returns-clause-some
returns-clause-some c =
    let same : c.args.blocks.width * c.power.result ≡ c.args.blocks.width * 2 ^ c.args.place = ap (λ k. c.args.blocks.width * k) c.power.ensures in
    let some : 1 ≤ c.args.blocks.width * 2 ^ c.args.place = scaled_some c.args.blocks.width c.args.place c.args.blocks.some in
    omega arith

pub returns-clause-room : goal.returns-clause-room
returns-clause-room c =
    let same : c.args.blocks.width * c.power.result ≡ c.args.blocks.width * 2 ^ c.args.place = ap (λ k. c.args.blocks.width * k) c.power.ensures in
    let double : c.args.blocks.width * 2 ^ (c.args.place + 1) ≡ c.args.blocks.width * 2 ^ c.args.place + c.args.blocks.width * 2 ^ c.args.place = next_power c.args.blocks.width c.args.place in
    let most : c.args.blocks.width * 2 ^ (c.args.place + 1) ≤ c.args.blocks.width * 2 ^ c.args.blocks.selects = scaled_most c.args.blocks.width (c.args.place + 1) c.args.blocks.selects (omega (arith, c.requires)) in
    omega (arith, c.args.blocks.limit)

pub returns-clause-few : goal.returns-clause-few
returns-clause-few c = let few : c.args.blocks.selects ≤ 16 = few_selects c.args.blocks.width c.args.blocks.selects c.args.blocks.some (omega (arith, c.args.blocks.limit)) in omega (arith, c.requires)
