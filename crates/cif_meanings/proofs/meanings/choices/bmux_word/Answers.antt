use Rattle.std.proofs.Common.{arith, ◌≤◌, length}
use Rattle.cif_meanings.proofs.ChoiceLaws.{few_blocks, narrow}
use Rattle.cif_meanings.proofs.meanings.choices.bmux_word.Goals as goal

pub to_u128-place-requires : goal.to_u128-place-requires
to_u128-place-requires c =
    let few : length c.args.s.now ≤ 16 = narrow _ (few_blocks c.args.width _ c.requires.some c.requires.limit) in
    omega arith
