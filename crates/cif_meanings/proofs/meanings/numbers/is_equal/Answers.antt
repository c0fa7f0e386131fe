use Rattle.cif_meanings.proofs.NumberMeanings.{equal_is}
use Rattle.cif_meanings.proofs.meanings.numbers.is_equal.Goals as goal

pub returns : goal.returns
returns c =
    equal_is c.larger_width-width.result c.args.signed c.args.a.now c.args.b.now c.in_ok-a.a c.in_ok-b.b c.equals.result
    c.larger_width-width.ensures.value c.in_ok-a.ensures c.in_ok-b.ensures c.equals.ensures
