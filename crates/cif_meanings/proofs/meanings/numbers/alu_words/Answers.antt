use Rattle.std.proofs.Common.{◌∙◌}
use Rattle.cif_arith.proofs.Meanings.{word_of-alu_x, word_of-alu_y, word_of-alu_co}
use Rattle.cif_meanings.proofs.meanings.numbers.alu_words.Goals as goal

pub returns-clause-x : goal.returns-clause-x
returns-clause-x c =
    c.in_ok-x.ensures
    ∙ word_of-alu_x c.args.width c.args.signed c.args.invert c.args.a.now c.args.b.now c.in_ok-numbers.numbers.a c.in_ok-numbers.numbers.b c.alu-out.result.x
    c.in_ok-numbers.ensures.a c.in_ok-numbers.ensures.b c.alu-out.ensures.x

pub returns-clause-y : goal.returns-clause-y
returns-clause-y c =
    c.in_ok-y.ensures
    ∙ word_of-alu_y c.args.width c.args.signed c.args.carry c.args.invert c.args.a.now c.args.b.now c.in_ok-numbers.numbers.a c.in_ok-numbers.numbers.b c.alu-out.result.y
    c.in_ok-numbers.ensures.a c.in_ok-numbers.ensures.b c.alu-out.ensures.y

pub returns-clause-co : goal.returns-clause-co
returns-clause-co c =
    c.in_ok-co.ensures
    ∙ word_of-alu_co c.args.width c.args.signed c.args.carry c.args.invert c.args.a.now c.args.b.now c.in_ok-numbers.numbers.a c.in_ok-numbers.numbers.b c.alu-out.result.co
    c.in_ok-numbers.ensures.a c.in_ok-numbers.ensures.b c.alu-out.ensures.co
