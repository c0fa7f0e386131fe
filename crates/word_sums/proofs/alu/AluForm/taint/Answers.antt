use Rattle.std.proofs.Common.{ap, ◌∙◌}
use Rattle.word_numbers.specs.HeldWords.{words_held}
use Rattle.word_numbers.specs.NarrowCells.{output_widths}
use Rattle.word_sums.proofs.AluLaws.{alu_carry_is, alu_sum_is, alu_taint_means, alu_xor_is, narrow_three}
use Rattle.word_sums.proofs.alu.AluForm.taint.Goals as goal

pub returns-clause-words : goal.returns-clause-words
returns-clause-words c d i =
    ap (words_held (output_widths d)) c.three.ensures
    ∙ alu_taint_means d c.args.self.now.shape c.args.values.now c.args.taints.now c.xor_taint-x.result c.sum_taint-y.result c.carry_taint-co.result i
    (alu_xor_is c.args.self.now.shape c.args.values.now c.args.taints.now c.of-operands.result c.xor_taint-x.result c.bit.result c.args.self.now.shape.some_a c.args.self.now.shape.some_b c.of-operands.ensures c.bit.ensures c.xor_taint-x.ensures.value)
    (alu_sum_is c.args.self.now.shape c.args.values.now c.args.taints.now c.of-operands.result c.sum_taint-y.result c.args.self.now.shape.some_a c.args.self.now.shape.some_b c.of-operands.ensures c.sum_taint-y.ensures.value)
    (alu_carry_is c.args.self.now.shape c.args.values.now c.args.taints.now c.of-operands.result c.carry_taint-co.result c.args.self.now.shape.some_a c.args.self.now.shape.some_b c.of-operands.ensures c.carry_taint-co.ensures.value)

pub returns-clause-narrow : goal.returns-clause-narrow
returns-clause-narrow c d i =
    narrow_three d c.args.self.now.shape c.three.result c.xor_taint-x.result c.sum_taint-y.result c.carry_taint-co.result i c.three.ensures c.xor_taint-x.ensures.fits c.sum_taint-y.ensures.fits c.carry_taint-co.ensures.fits
