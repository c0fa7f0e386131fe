use Rattle.std.proofs.Common.{ap, ◌∙◌}
use Rattle.word_numbers.specs.HeldWords.{words_held}
use Rattle.word_numbers.specs.NarrowCells.{output_widths}
use Rattle.word_sums.proofs.AluLaws.{alu_value_fits, alu_value_is, carries_fit, narrow_three}
use Rattle.word_sums.proofs.ValueLaws.{cut_fits}
use Rattle.word_sums.proofs.alu.AluForm.value.Goals as goal

pub returns-clause-words : goal.returns-clause-words
returns-clause-words c d i =
    ap (words_held (output_widths d)) c.three.ensures
    ∙ alu_value_is d c.args.self.now.shape c.args.values.now c.extended_pair-numbers.result.a c.extended_pair-numbers.result.b c.alu-out.result.x c.alu-out.result.y c.alu-out.result.co c.bit-carry.result c.bit-invert.result i
    c.extended_pair-numbers.ensures.a c.extended_pair-numbers.ensures.b c.bit-carry.ensures c.bit-invert.ensures c.alu-out.ensures.x c.alu-out.ensures.y c.alu-out.ensures.co

pub returns-clause-narrow : goal.returns-clause-narrow
returns-clause-narrow c d i =
    narrow_three d c.args.self.now.shape c.three.result c.alu-out.result.x c.alu-out.result.y c.alu-out.result.co i c.three.ensures
    (alu_value_fits c.args.self.now.shape.y c.extended_pair-numbers.result.a c.extended_pair-numbers.result.b c.alu-out.result.x c.bit-invert.result c.extended_pair-numbers.ensures.a_fits c.extended_pair-numbers.ensures.b_fits c.alu-out.ensures.x)
    (cut_fits c.args.self.now.shape.y _ c.alu-out.result.y c.alu-out.ensures.y) (carries_fit c.args.self.now.shape.y _ _ _ c.alu-out.result.co c.alu-out.ensures.co)
