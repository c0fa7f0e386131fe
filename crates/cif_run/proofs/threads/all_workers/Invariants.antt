use Rattle.std.proofs.Common.{◌≡◌, ◌+◌, vec_len}
use Rattle.std.specs.Vec.Iter.{into_iter_len}
use Rattle.cif_run.proofs.threads.all_workers.Given as goal

abbrev pub invariant-loop-worker : goal.invariant-loop-worker
invariant-loop-worker g l = vec_len l.workers + into_iter_len l.worker-iterator ≡ vec_len l.fn.away + vec_len l.fn.home
