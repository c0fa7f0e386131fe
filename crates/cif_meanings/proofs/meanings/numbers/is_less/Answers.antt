use Rattle.std.proofs.Common.{arith, length, ◌≤◌}
use Rattle.cif_arith.proofs.Meanings.{compared-less, compared-not_less}
use Rattle.cif_meanings.proofs.meanings.numbers.is_less.Goals as goal

pub returns-clause-less : goal.returns-clause-less
returns-clause-less c =
    let a_fits : length c.args.a.now ≤ c.larger_width-width.result = omega (arith, c.larger_width-width.ensures.value) in
    let b_fits : length c.args.b.now ≤ c.larger_width-width.result = omega (arith, c.larger_width-width.ensures.value) in
    compared-less c.larger_width-width.result c.args.signed c.args.a.now c.args.b.now c.in_ok-numbers.numbers.a c.in_ok-numbers.numbers.b c.less.result
    a_fits b_fits c.in_ok-numbers.ensures.a c.in_ok-numbers.ensures.b c.less.ensures

pub returns-clause-reverse : goal.returns-clause-reverse
returns-clause-reverse c =
    let a_fits : length c.args.a.now ≤ c.larger_width-width.result = omega (arith, c.larger_width-width.ensures.value) in
    let b_fits : length c.args.b.now ≤ c.larger_width-width.result = omega (arith, c.larger_width-width.ensures.value) in
    compared-not_less c.larger_width-width.result c.args.signed c.args.b.now c.args.a.now c.in_ok-numbers.numbers.b c.in_ok-numbers.numbers.a c.less.result
    b_fits a_fits c.in_ok-numbers.ensures.b c.in_ok-numbers.ensures.a c.less.ensures
