use Rattle.std.proofs.Common.{◌≡◌, ◌<◌, ◌+◌, ℕ, vec_len, get_or}
use Rattle.cif_hall.specs.Workers.{new_worker}
use Rattle.cif_hall.proofs.hall.new_workers.Given as goal

abbrev pub invariant-loop-number : goal.invariant-loop-number
invariant-loop-number g l =
    (l.rest.parts + l.number ≡ l.workers) × (l.rest.amount ≡ 0) × (vec_len l.roles ≡ l.number)
    × ((i : ℕ) (d : _) → i < l.number → get_or l.roles.items i d ≡ new_worker i)
