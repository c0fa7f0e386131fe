use Rattle.std.proofs.Common.{◌≡◌, vec_len}
use Rattle.cif_run.proofs.round.turn_workers.Given as goal

abbrev pub invariant-loop-i : goal.invariant-loop-i
invariant-loop-i g l = vec_len l.workers ≡ vec_len l.fn.workers
