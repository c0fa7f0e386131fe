use Rattle.word_sums.proofs.ValueLaws.{equal_is}
use Rattle.std.proofs.lemmas.Bool.Decides.{Decides-eqb}
use Rattle.word_sums.proofs.values.is_equal.Goals as goal

pub returns : goal.returns
returns c =
    equal_is c.args.shape c.args.values c.larger_width.result c.extended_pair-numbers.result.a c.extended_pair-numbers.result.b _
    c.larger_width.ensures.value c.extended_pair-numbers.ensures.a c.extended_pair-numbers.ensures.b c.extended_pair-numbers.ensures.a_fits c.extended_pair-numbers.ensures.b_fits
    (Decides-eqb c.extended_pair-numbers.result.a c.extended_pair-numbers.result.b)
