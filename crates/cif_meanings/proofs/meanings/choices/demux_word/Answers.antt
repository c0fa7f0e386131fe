use Rattle.std.proofs.Common.{arith, ◌≤◌, ◌≡◌, ◌*◌, ◌^◌, ◌%◌, ap}
use Rattle.std.proofs.Math.Nat.{mod-eq_of_lt}
use Rattle.cif_meanings.proofs.MeaningLaws.{answered}
use Rattle.cif_meanings.proofs.ChoiceLaws.{few_blocks, narrow, demux_is}
use Rattle.cif_meanings.proofs.meanings.choices.demux_word.Goals as goal

pub overflow_shl-width : goal.overflow_shl-width
overflow_shl-width c =
    let few : c.args.s_width ≤ 16 = narrow _ (few_blocks c.args.width _ c.requires.some c.requires.limit) in
    omega arith

pub to_u128-place-requires : goal.to_u128-place-requires
to_u128-place-requires c =
    let few : c.args.s_width ≤ 16 = narrow _ (few_blocks c.args.width _ c.requires.some c.requires.limit) in
    omega arith

pub returns : goal.returns
returns c =
    let total : c.args.width * 2 ^ c.args.s_width % 2 ^ 32 ≡ c.args.width * 2 ^ c.args.s_width = mod-eq_of_lt (omega arith) in
    answered _ _ _ (demux_is _ _ _ _ _ _ _ c.requires.some c.requires.a_width total c.in_ok-wide.ensures (ap (λ k. k * c.args.width) c.to_u128-place.ensures.value)) c.shl.ensures
