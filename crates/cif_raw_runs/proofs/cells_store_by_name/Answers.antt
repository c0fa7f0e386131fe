use Rattle.cif_raw_runs.proofs.Lengths.{as_long}
use Rattle.cif_raw_runs.proofs.Steps.{advances, starts}
use Rattle.cif_raw_runs.proofs.cells_store_by_name.Goals as goal

pub returns-clause-starts : goal.returns-clause-starts
returns-clause-starts c = starts

pub returns-clause-advances : goal.returns-clause-advances
returns-clause-advances c = advances

pub returns-clause-as_long : goal.returns-clause-as_long
returns-clause-as_long c = as_long
