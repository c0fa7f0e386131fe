use Rattle.std.proofs.Common.{◌≡◌, sum, take, vec_len}
use Rattle.std.specs.List.{sum_by}
use Rattle.cif_run.proofs.live.counts_of.Given as goal

abbrev pub invariant-loop-worker : goal.invariant-loop-worker
invariant-loop-worker g l = (vec_len l.counts ≡ l.worker-index) × (sum l.counts.items ≡ sum_by (λ w. w.accepted) (take l.worker-index l.workers.items))
