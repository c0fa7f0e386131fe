-- The widths fit.
use Rattle.std.proofs.Common.{arith}
use Rattle.rule_arith.proofs.ArithTaints.{own_limit_a, own_limit_y}
use Rattle.rule_arith.proofs.shadow.own_term.Goals as goal

pub overflow_cast-width : goal.overflow_cast-width
overflow_cast-width c = omega (arith, c.number-width.ensures, own_limit_y c.args.cell.now c.requires.kind c.requires.fitted)

pub overflow_cast-bits : goal.overflow_cast-bits
overflow_cast-bits c = omega (arith, c.number-bits.ensures, own_limit_a c.args.cell.now c.requires.kind c.requires.fitted)

pub neg_term-requires : goal.neg_term-requires
neg_term-requires c = omega (arith, c.number-width.ensures, own_limit_y c.args.cell.now c.requires.kind c.requires.fitted)
