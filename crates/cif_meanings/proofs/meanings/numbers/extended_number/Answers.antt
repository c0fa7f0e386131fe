use Rattle.std.proofs.Common.{arith, ap, ◌∙◌, length, ◌≡◌, ◌^◌}
use Rattle.cif_defs.proofs.WordLaws.{length-word}
use Rattle.cif_meanings.proofs.meanings.numbers.extended_number.Goals as goal

pub to_u128-requires : goal.to_u128-requires
to_u128-requires c =
    let same : length c.in_ok-extended.extended ≡ c.args.width = ap length c.in_ok-extended.ensures ∙ length-word c.args.width _ in
    omega arith

pub returns-clause-below : goal.returns-clause-below
returns-clause-below c =
    let same : 2 ^ length c.in_ok-extended.extended ≡ 2 ^ c.args.width = ap (λ k. 2 ^ k) (ap length c.in_ok-extended.ensures ∙ length-word c.args.width _) in
    omega (arith, c.to_u128.ensures.below)
