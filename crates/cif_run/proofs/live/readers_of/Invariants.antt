use Rattle.std.proofs.Common.{◌≡◌, ◌<◌, ◌+◌, ℕ, get_or, vec_len}
use Rattle.std.specs.Vec.Iter.{into_iter_items, into_iter_len}
use Rattle.cif_hall.specs.Sessions.{new_session}
use Rattle.cif_run.specs.Readers.{AreNumbered}
use Rattle.cif_run.proofs.live.readers_of.Given as goal

abbrev pub invariant-loop-session : goal.invariant-loop-session
invariant-loop-session g l =
    (vec_len l.readers + into_iter_len l.session-iterator ≡ vec_len l.fn.sessions)
    × ((k : ℕ) (d : _) → k < into_iter_len l.session-iterator → get_or (into_iter_items l.session-iterator) k d ≡ new_session (vec_len l.readers + k))
    × AreNumbered l.readers.items
