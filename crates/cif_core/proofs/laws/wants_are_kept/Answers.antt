use Rattle.cif_core.proofs.EventLists.{floor-stays}
use Rattle.cif_core.proofs.laws.wants_are_kept.Goals as goal

pub returns : goal.returns
returns c = λ c n w q session cycle events s t inside no h. floor-stays c n w q session cycle events s t inside no h
