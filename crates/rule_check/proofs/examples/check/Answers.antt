use Rattle.std.proofs.Common.{arith}
use Rattle.rule_check.proofs.OperandWords.{first_fitted}
use Rattle.rule_check.proofs.examples.check.Goals as goal

pub check_cell-requires-clause-fitted : goal.check_cell-requires-clause-fitted
check_cell-requires-clause-fitted g c = first_fitted _ _ c.cells-cells.ensures.fitted (omega arith) c.index-cells-0.is
