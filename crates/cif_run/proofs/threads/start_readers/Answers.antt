use Rattle.std.proofs.Common.{◌≡◌, ◌+◌, arith, below_more, get_or, rules, vec_items, vec_len}
use Rattle.cif_run.proofs.Crossing.{roles_cross}
use Rattle.cif_run.proofs.threads.start_readers.Goals as goal

pub spawn_with-requires-send-F : goal.spawn_with-requires-send-F
spawn_with-requires-send-F g c κs = λ h.
    let sent = c.type_bounds.send-N in let shown = c.type_bounds.sync-N in let runtime = c.type_bounds.sync-R in let gate = c.type_bounds.sync-G in
    search roles_cross depth 20

pub spawn_with-requires-send-T : goal.spawn_with-requires-send-T
spawn_with-requires-send-T g c κs = λ h.
    let sent = c.type_bounds.send-N in let shown = c.type_bounds.sync-N in let runtime = c.type_bounds.sync-R in let gate = c.type_bounds.sync-G in
    search roles_cross depth 20

-- a thread takes the session on
pub loop-reader-preserved-in-Continue-branch-3 : goal.loop-reader-preserved-in-Continue-branch-3
loop-reader-preserved-in-Continue-branch-3 g c =
    let was = c.loop-reader.invariant in let step = c.in-Some.ensures.steps in let done = vec_len c.loop-reader.away in
    let all = vec_items c.push.new.self in
    let none : vec_len c.loop-reader.home ≡ 0 = search rules in
    let next : c.in-Some.reader.number ≡ done = let h = was.1 0 c.in-Some.reader in grind rules in
    let grown : vec_len c.push.new.self ≡ done + 1 = search rules in (
      search rules,
      (λ k d below. let h = was.1 (k + 1) d in grind rules),
      (λ k d below.
          let p = c.in-Ok.ensures.ok in let n = c.number-number.ensures in
          below_more (λ i. (get_or all i d).promise.0 ≡ i) done (λ j less. rw (c.push.ensures.by_index.0 j d less) (was.2 j d less)) (rw (c.push.ensures.by_index.1 d (search rules)) (grind rules)) k (omega arith)),
      (λ k d below. absurd (omega arith)),
    )

-- no thread takes it on
pub loop-reader-preserved-in-Continue-branch-4 : goal.loop-reader-preserved-in-Continue-branch-4
loop-reader-preserved-in-Continue-branch-4 g c =
    let was = c.loop-reader.invariant in let step = c.in-Some.ensures.steps in let away = vec_len c.loop-reader.away in let done = vec_len c.loop-reader.home in
    let all = vec_items c.push-in-Err.new.self in
    let none : done ≡ 0 = search rules in
    let next : c.in-Some.reader.number ≡ away + done = let h = was.1 0 c.in-Some.reader in grind rules in
    let back : c.job.result.number ≡ c.in-Some.reader.number = search rules in
    let grown : vec_len c.push-in-Err.new.self ≡ done + 1 = search rules in (
      search rules,
      (λ k d below. let h = was.1 (k + 1) d in grind rules),
      was.2,
      (λ k d below.
          below_more (λ i. (get_or all i d).number ≡ away + i) done (λ j less. absurd (omega arith)) (rw (c.push-in-Err.ensures.by_index.1 d (search rules)) (grind rules)) k (omega arith)),
    )

-- an earlier one stays here
pub loop-reader-preserved : goal.loop-reader-preserved
loop-reader-preserved g c =
    let was = c.loop-reader.invariant in let step = c.in-Some.ensures.steps in let away = vec_len c.loop-reader.away in let done = vec_len c.loop-reader.home in
    let all = vec_items c.push-else-is_empty.new.self in
    let next : c.in-Some.reader.number ≡ away + done = let h = was.1 0 c.in-Some.reader in grind rules in
    let grown : vec_len c.push-else-is_empty.new.self ≡ done + 1 = search rules in (
      search rules,
      (λ k d below. let h = was.1 (k + 1) d in grind rules),
      was.2,
      (λ k d below.
          below_more (λ i. (get_or all i d).number ≡ away + i) done (λ j less. rw (c.push-else-is_empty.ensures.by_index.0 j d less) (was.3 j d less)) (rw (c.push-else-is_empty.ensures.by_index.1 d (search rules)) (grind rules)) k (omega arith)),
    )
