-- The widths of a binary cell fit.
use Rattle.std.proofs.Common.{arith}
use Rattle.rule_logic.proofs.LogicKinds.{binary_shape}
use Rattle.rule_logic.proofs.bitwise.a_extension.Goals as goal

pub overflow_cast-result : goal.overflow_cast-result
overflow_cast-result c = let u = binary_shape c.args.cell.now c.requires.binary c.requires.fitted in let a = u.a in let l = a.limit in omega (arith, c.number.ensures, l)

pub overflow_cast-result-2 : goal.overflow_cast-result-2
overflow_cast-result-2 c = let u = binary_shape c.args.cell.now c.requires.binary c.requires.fitted in let y = u.y in let l = y.limit in omega (arith, c.number-2.ensures, l)

pub returns-clause-limit : goal.returns-clause-limit
returns-clause-limit c = let u = binary_shape c.args.cell.now c.requires.binary c.requires.fitted in let y = u.y in let l = y.limit in omega (arith, c.number-2.ensures, l)
