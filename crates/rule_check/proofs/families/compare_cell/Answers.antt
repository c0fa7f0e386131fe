use Rattle.std.proofs.Common.{arith}
use Rattle.rule_check.proofs.OperandWords.{first_fitted}
use Rattle.rule_check.proofs.families.compare_cell.Goals as goal

pub compare_values-requires : goal.compare_values-requires
compare_values-requires g c = record { fitted = first_fitted _ _ c.cells-cells.ensures.fitted (omega arith) c.index-cells-0.is }
