use Rattle.std.proofs.Common.{◌<◌, ◌+◌, ◌*◌, ◌%◌, ◌^◌, arith}
use Rattle.cif_bits.proofs.WordForms.{digit_fits, one_added, none_added}
use Rattle.cif_bits.proofs.digits.bits_number.Goals as goal
use Rattle.cif_bits.proofs.digits.bits_number.Goals.{then-bits-i, else-bits-i}

pub overflow_add-total : goal.overflow_add-total
overflow_add-total c =
    let fits : c.loop-i.total + 1 * 2 ^ c.loop-i.i % 2 ^ 128 < 2 ^ 128 = digit_fits c.loop-i.i 128 c.loop-i.total (omega arith) c.loop-i.invariant.below in
    omega arith

pub loop-i-preserved : goal.loop-i-preserved
loop-i-preserved c = elim c.if-bits-i.branch [
  | then-bits-i w ↦ one_added _ _ 128 _ _ c.loop-i-test.true (omega arith) c.loop-i.invariant w.if-bits-i.true w.total-is
  | else-bits-i w ↦ none_added _ _ _ _ c.loop-i-test.true c.loop-i.invariant w.if-bits-i.false w.total-is
]
