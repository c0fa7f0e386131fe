use Rattle.cif_term.proofs.Widened.{compared-equal}
use Rattle.cif_term.proofs.apply.is_equal.Goals as goal

pub returns : goal.returns
returns c = compared-equal _ _ _ c.requires c.equals.ensures
