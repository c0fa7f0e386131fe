-- The width fits.
use Rattle.std.proofs.Common.{arith}
use Rattle.rule_arith.proofs.ArithTaints.{pair_limits}
use Rattle.rule_arith.proofs.shadow.width_of_output.Goals as goal

pub overflow_cast-result : goal.overflow_cast-result
overflow_cast-result c = let u = pair_limits c.args.cell.now c.requires.pair c.requires.fitted in let y = u.y in omega (arith, c.number.ensures, y)

pub returns-clause-limit : goal.returns-clause-limit
returns-clause-limit c = let u = pair_limits c.args.cell.now c.requires.pair c.requires.fitted in let y = u.y in omega (arith, c.number.ensures, y)
