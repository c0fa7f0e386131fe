use Rattle.std.proofs.Common.{◌≡◌}
use Rattle.cif_run.proofs.work.read.Given as goal

abbrev pub invariant-loop : goal.invariant-loop
invariant-loop g l = (goal.iterator-loop g).can_next l.iterator' × (goal.iterator-loop g).is_finite l.iterator' × (l.reader.number ≡ l.initial.reader.number)
