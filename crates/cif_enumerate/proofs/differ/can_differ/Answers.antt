use Rattle.cif_enumerate.proofs.Filling.{differs-from_both}
use Rattle.cif_enumerate.proofs.differ.can_differ.Goals as goal

pub returns : goal.returns
returns g c = differs-from_both _ _ _ _ _ c.in_ok-gives_one.ensures c.in_ok-gives_zero.ensures
