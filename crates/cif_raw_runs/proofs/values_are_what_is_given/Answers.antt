use Rattle.cif_raw_runs.proofs.Values.{values_given, values_unique}
use Rattle.cif_raw_runs.proofs.values_are_what_is_given.Goals as goal

pub returns-clause-given : goal.returns-clause-given
returns-clause-given c = values_given

pub returns-clause-unique : goal.returns-clause-unique
returns-clause-unique c = values_unique
