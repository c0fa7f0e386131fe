use Rattle.std.proofs.Common.{◌≡◌, Some, replicate}
use Rattle.cif_core.proofs.scan.first_wants.Given as goal

abbrev pub invariant-loop-session : goal.invariant-loop-session
invariant-loop-session l = l.wants.items ≡ replicate l._session (Some 0)
