use Rattle.cif_rules.proofs.KindCovers.{once}
use Rattle.cif_rules.proofs.covered_once.Goals as goal

pub returns : goal.returns
returns c = once
