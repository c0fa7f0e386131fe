use Rattle.word_sums.proofs.ValueLaws.{greater_is}
use Rattle.word_sums.proofs.values.is_greater.Goals as goal

pub returns : goal.returns
returns c =
    greater_is c.args.shape c.args.values c.larger_width-width.result c.extended_pair-numbers.result.a c.extended_pair-numbers.result.b c.less.result
    c.larger_width-width.ensures.value c.extended_pair-numbers.ensures.a c.extended_pair-numbers.ensures.b c.less.ensures
