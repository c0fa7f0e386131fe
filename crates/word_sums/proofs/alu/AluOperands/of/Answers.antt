use Rattle.std.proofs.Common.{subst}
use Rattle.word_sums.specs.AluNumbers.{IsAddend}
use Rattle.word_sums.proofs.AluLaws.{addend_is, plain_addend}
use Rattle.word_sums.proofs.alu.AluOperands.of.Goals as goal

pub returns : goal.returns
returns c = record {
  first = plain_addend c.args.shape.y c.args.shape.a c.args.values.now.a c.args.taints.now.a c.args.shape.signed c.summand-first.result
      c.summand-first.ensures.value c.summand-first.ensures.value_fits c.summand-first.ensures.taint c.summand-first.ensures.taint_fits c.summand-first.ensures.start c.summand-first.ensures.start_fits;
  least = subst (λ b. IsAddend c.args.shape.y c.args.shape.signed b c.args.shape.b c.args.values.now.b c.args.taints.now.b c.inverted.result) c.bit_bounds-invert.ensures.least
      (addend_is c.args.shape.y c.args.shape.b c.args.values.now.b c.args.taints.now.b c.args.shape.signed c.bit_bounds-invert.result.least c.summand-second.result c.inverted.result
      c.summand-second.ensures.value c.summand-second.ensures.taint c.summand-second.ensures.taint_fits c.summand-second.ensures.start c.summand-second.ensures.start_fits
      c.inverted.ensures.value c.inverted.ensures.value_fits c.inverted.ensures.taint c.inverted.ensures.start);
  greatest = subst (λ b. IsAddend c.args.shape.y c.args.shape.signed b c.args.shape.b c.args.values.now.b c.args.taints.now.b c.inverted-2.result) c.bit_bounds-invert.ensures.greatest
      (addend_is c.args.shape.y c.args.shape.b c.args.values.now.b c.args.taints.now.b c.args.shape.signed c.bit_bounds-invert.result.greatest c.summand-second.result c.inverted-2.result
      c.summand-second.ensures.value c.summand-second.ensures.taint c.summand-second.ensures.taint_fits c.summand-second.ensures.start c.summand-second.ensures.start_fits
      c.inverted-2.ensures.value c.inverted-2.ensures.value_fits c.inverted-2.ensures.taint c.inverted-2.ensures.start);
  least_carry = c.bit_bounds.ensures.least;
  greatest_carry = c.bit_bounds.ensures.greatest;
}
