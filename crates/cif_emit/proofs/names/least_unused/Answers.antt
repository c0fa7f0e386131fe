use Rattle.std.proofs.Common.{arith}
use Rattle.cif_emit.proofs.Numbers.{not_used}
use Rattle.cif_emit.proofs.names.least_unused.Goals as goal

pub returns-else-used-place-clause-unused : goal.returns-else-used-place-clause-unused
returns-else-used-place-clause-unused c = not_used _ c.requires.rising c.loop-place.number c.loop-place.place c.loop-place.invariant.below (λ _. omega (arith, c.if-used-place.false))

pub returns-after-loop-place-clause-unused : goal.returns-after-loop-place-clause-unused
returns-after-loop-place-clause-unused c = not_used _ c.requires.rising c.loop-place.number c.loop-place.place c.loop-place.invariant.below (λ l. absurd (omega (arith, c.loop-place-test.false)))
