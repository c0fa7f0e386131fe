use Rattle.cif_emit.proofs.NewNets.{AreNetsSoFar}
use Rattle.cif_emit.proofs.names.NameMaker.nets.Given as goal

abbrev pub invariant-loop : goal.invariant-loop
invariant-loop l = AreNetsSoFar l.fn.self l.self l.counter l.bits.items
