use Rattle.std.proofs.Common.{◌≡◌, ◌<◌, ℕ, None}
use Rattle.cif_core.specs.Machine.{want_at}
use Rattle.cif_hall.proofs.finish.leave_all.Given as goal

abbrev pub invariant-loop-session : goal.invariant-loop-session
invariant-loop-session g l = (i : ℕ) → i < l.session → want_at l.kept.core.wants i ≡ None
