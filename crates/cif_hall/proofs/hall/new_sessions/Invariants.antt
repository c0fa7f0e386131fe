use Rattle.std.proofs.Common.{◌≡◌, ◌<◌, ℕ, vec_len, get_or}
use Rattle.cif_hall.specs.Sessions.{new_session}
use Rattle.cif_hall.proofs.hall.new_sessions.Given as goal

abbrev pub invariant-loop-number : goal.invariant-loop-number
invariant-loop-number g l =
    (vec_len l.roles ≡ l.number) × ((i : ℕ) (d : _) → i < l.number → get_or l.roles.items i d ≡ new_session i)
