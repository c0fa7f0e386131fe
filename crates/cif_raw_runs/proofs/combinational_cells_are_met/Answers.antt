use Rattle.cif_raw_runs.proofs.MetLaws.{are_met}
use Rattle.cif_raw_runs.proofs.combinational_cells_are_met.Goals as goal

pub returns : goal.returns
returns c = are_met
