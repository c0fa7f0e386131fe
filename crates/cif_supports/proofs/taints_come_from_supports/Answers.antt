use Rattle.cif_supports.proofs.SupportLaw.{support_law}
use Rattle.cif_supports.proofs.taints_come_from_supports.Goals as goal

pub returns : goal.returns
returns c = support_law
