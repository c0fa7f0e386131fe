use Rattle.cif_raw_runs.proofs.Taints.{taints_given, taints_unique}
use Rattle.cif_raw_runs.proofs.taints_are_what_is_given.Goals as goal

pub returns-clause-given : goal.returns-clause-given
returns-clause-given c = taints_given

pub returns-clause-unique : goal.returns-clause-unique
returns-clause-unique c = taints_unique
