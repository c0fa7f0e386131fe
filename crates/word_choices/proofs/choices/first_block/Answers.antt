use Rattle.std.specs.Prelude.{◌≡◌, ◌*◌, ◌<◌, ◌≤◌, length}
use Rattle.std.specs.Int.{trailing_zeros, w128}
use Rattle.std.proofs.Common.{arith, sym, subst}
use Rattle.std.proofs.Math.Nat.{mul-le-mul_right}
use Rattle.cif_defs.specs.Words.{digit}
use Rattle.cif_defs.proofs.WordLaws.{length-word}
use Rattle.word_choices.proofs.ChoiceValues.{block_fits, lowest_one, pmux_first}
use Rattle.word_choices.proofs.choices.first_block.Goals as goal

pub slice-requires-clause-place : goal.slice-requires-clause-place
slice-requires-clause-place c =
    let few : c.args.chain.selects ≤ 128 = (let room : 1 * c.args.chain.selects ≤ c.args.chain.width * c.args.chain.selects = mul-le-mul_right c.args.chain.selects c.args.chain.some in omega (arith, c.args.chain.limit)) in
    let lowest = lowest_one c.args.chain.selects c.args.values.c c.requires.some few c.requires.s_fits in
    block_fits (trailing_zeros w128 c.args.values.c) c.args.chain.width c.args.chain.selects c.args.chain.some lowest.inside c.args.chain.limit

pub returns-clause-word : goal.returns-clause-word
returns-clause-word c =
    let few : c.args.chain.selects ≤ 128 = (let room : 1 * c.args.chain.selects ≤ c.args.chain.width * c.args.chain.selects = mul-le-mul_right c.args.chain.selects c.args.chain.some in omega (arith, c.args.chain.limit)) in
    let lowest = lowest_one c.args.chain.selects c.args.values.c c.requires.some few c.requires.s_fits in
    let long : length _ ≡ c.args.chain.selects = length-word c.args.chain.selects (digit c.args.values.c) in
    pmux_first c.args.chain.width (trailing_zeros w128 c.args.values.c) c.slice.result _ _ _ (subst (λ n. trailing_zeros w128 c.args.values.c < n) (sym long) lowest.inside) lowest.set lowest.below
    (c.slice.ensures.word (c.args.chain.width * c.args.chain.selects) c.requires.b_fits)
