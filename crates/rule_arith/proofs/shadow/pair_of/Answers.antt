-- The widths fit.
use Rattle.std.proofs.Common.{arith}
use Rattle.rule_arith.proofs.ArithTaints.{pair_limits}
use Rattle.rule_arith.proofs.shadow.pair_of.Goals as goal

pub overflow_cast-result : goal.overflow_cast-result
overflow_cast-result c = let u = pair_limits c.args.cell.now c.requires.pair c.requires.fitted in let a = u.a in omega (arith, c.number.ensures, a)

pub overflow_cast-result-2 : goal.overflow_cast-result-2
overflow_cast-result-2 c = let u = pair_limits c.args.cell.now c.requires.pair c.requires.fitted in let b = u.b in omega (arith, c.number-2.ensures, b)

pub returns-clause-first_limit : goal.returns-clause-first_limit
returns-clause-first_limit c = let u = pair_limits c.args.cell.now c.requires.pair c.requires.fitted in let a = u.a in omega (arith, c.number.ensures, a)

pub returns-clause-second_limit : goal.returns-clause-second_limit
returns-clause-second_limit c = let u = pair_limits c.args.cell.now c.requires.pair c.requires.fitted in let b = u.b in omega (arith, c.number-2.ensures, b)
