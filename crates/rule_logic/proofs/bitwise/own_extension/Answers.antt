-- The widths of a unary cell fit.
use Rattle.std.proofs.Common.{arith}
use Rattle.rule_logic.proofs.LogicKinds.{unary_shape}
use Rattle.rule_logic.proofs.bitwise.own_extension.Goals as goal

pub overflow_cast-result : goal.overflow_cast-result
overflow_cast-result c = let u = unary_shape c.args.cell.now c.requires.unary c.requires.fitted in let a = u.a in let l = a.limit in omega (arith, c.number.ensures, l)

pub overflow_cast-result-2 : goal.overflow_cast-result-2
overflow_cast-result-2 c = let u = unary_shape c.args.cell.now c.requires.unary c.requires.fitted in let y = u.y in let l = y.limit in omega (arith, c.number-2.ensures, l)

pub returns-clause-limit : goal.returns-clause-limit
returns-clause-limit c = let u = unary_shape c.args.cell.now c.requires.unary c.requires.fitted in let y = u.y in let l = y.limit in omega (arith, c.number-2.ensures, l)
