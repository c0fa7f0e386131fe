use Rattle.std.proofs.Common.{◌≡◌}
use Rattle.cif_hall.specs.Sessions.{IsAhead}
use Rattle.cif_hall.proofs.session.Session.wait_at.Given as goal

abbrev pub invariant-loop : goal.invariant-loop
invariant-loop g l =
    (goal.iterator-loop g).can_next l.iterator' × (goal.iterator-loop g).is_finite l.iterator' × (l.self ≡ l.initial.self) × IsAhead l.self l.cycle
