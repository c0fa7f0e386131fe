-- The widths of a cell of a coarse kind fit.
use Rattle.std.proofs.Common.{arith}
use Rattle.rule_coarse.proofs.CoarseKinds.{coarse_shape}
use Rattle.rule_coarse.proofs.shape.Shape.of.Goals as goal

pub overflow_cast-result : goal.overflow_cast-result
overflow_cast-result c = let u = coarse_shape c.args.cell.now c.requires.covered c.requires.fitted in let a = u.a in let l = a.limit in omega (arith, c.number.ensures, l)

pub overflow_cast-result-2 : goal.overflow_cast-result-2
overflow_cast-result-2 c = let u = coarse_shape c.args.cell.now c.requires.covered c.requires.fitted in let b = u.b in let l = b.limit in omega (arith, c.number-2.ensures, l)

pub overflow_cast-result-3 : goal.overflow_cast-result-3
overflow_cast-result-3 c = let u = coarse_shape c.args.cell.now c.requires.covered c.requires.fitted in let y = u.y in let l = y.limit in omega (arith, c.number-3.ensures, l)

pub returns-clause-limit_a : goal.returns-clause-limit_a
returns-clause-limit_a c = let u = coarse_shape c.args.cell.now c.requires.covered c.requires.fitted in let a = u.a in let l = a.limit in omega (arith, c.number.ensures, l)

pub returns-clause-limit_b : goal.returns-clause-limit_b
returns-clause-limit_b c = let u = coarse_shape c.args.cell.now c.requires.covered c.requires.fitted in let b = u.b in let l = b.limit in omega (arith, c.number-2.ensures, l)

pub returns-clause-limit_y : goal.returns-clause-limit_y
returns-clause-limit_y c = let u = coarse_shape c.args.cell.now c.requires.covered c.requires.fitted in let y = u.y in let l = y.limit in omega (arith, c.number-3.ensures, l)
