use Rattle.std.proofs.Common.{arith, ◌≤◌, ◌≡◌, ◌*◌, ◌^◌, ◌-◌, ◌%◌, length}
use Rattle.cif_defs.specs.Words.{number}
use Rattle.cif_meanings.proofs.ShiftLaws.{half_is, below_is, high_number}
use Rattle.cif_meanings.proofs.meanings.shifts.below_zero.Goals as goal

pub overflow_sub-result : goal.overflow_sub-result
overflow_sub-result c =
    let w = c.args.a.now in
    let half : 1 * 2 ^ (c.width.result - 1) % 2 ^ 128 ≡ 2 ^ (length w - 1) = half_is w c.width.result c.width.ensures.value c.requires.some c.requires.limit in
    let high : 2 ^ (length w - 1) ≤ number w = high_number w c.requires.negative in
    omega arith

pub returns : goal.returns
returns c =
    let w = c.args.a.now in
    below_is w _ _ (half_is w c.width.result c.width.ensures.value c.requires.some c.requires.limit) c.requires.some c.requires.negative c.to_u128.ensures.value
