use Rattle.cif_core.proofs.KeptState.{taken-whole}
use Rattle.cif_core.proofs.machine.Core.done.Goals as goal

pub returns-clause-whole : goal.returns-clause-whole
returns-clause-whole g c = let h = c.self.invariant.1 in rw (← c.self.view_is) (λ e. taken-whole _ _ _ _ _ h.kept e)
