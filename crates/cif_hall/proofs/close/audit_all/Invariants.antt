use Rattle.std.proofs.Common.{◌≡◌, ◌<◌, ◌+◌, vec_len}
use Rattle.std.specs.List.{sum_by}
use Rattle.cif_hall.proofs.close.audit_all.Given as goal

abbrev pub invariant-loop-worker : goal.invariant-loop-worker
invariant-loop-worker g l =
    (l.all.parts ≡ vec_len l.tallies) × (l.all.parts + vec_len l.left ≡ vec_len l.fn.workers)
    × (l.all.amount ≡ sum_by (λ t. t.accepted) l.tallies.items) × (l.book.total ≡ l.initial.book.total) × (0 < vec_len l.tallies)

abbrev pub decreases-loop-worker : goal.decreases-loop-worker
decreases-loop-worker g l = vec_len l.left

abbrev pub invariant-loop-tally : goal.invariant-loop-tally
invariant-loop-tally g l =
    (l.all.parts ≡ vec_len l.tallies) × (l.all.amount ≡ sum_by (λ t. t.accepted) l.tallies.items)
    × (sum_by (λ w. w.accepted) l.back.items + l.all.amount ≡ l.book.total) × (vec_len l.back + vec_len l.tallies ≡ vec_len l.fn.workers)

abbrev pub decreases-loop-tally : goal.decreases-loop-tally
decreases-loop-tally g l = vec_len l.tallies
