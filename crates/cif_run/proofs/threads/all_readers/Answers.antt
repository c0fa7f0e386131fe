use Rattle.std.proofs.Common.{◌≡◌, ◌+◌, length, rules, vec_len}
use Rattle.cif_run.proofs.Listing.{numbered_more}
use Rattle.cif_run.proofs.threads.all_readers.Goals as goal

pub loop-reader-preserved : goal.loop-reader-preserved
loop-reader-preserved g c =
    let was = c.loop-reader.invariant in let step = c.in-Some.ensures.steps in let done = length c.loop-reader.readers.items in
    let next : c.in-Some.reader.number ≡ done = let h = was.1 0 c.in-Some.reader in grind rules in
    let grown : vec_len c.push.new.self ≡ done + 1 = search rules in (
      search rules,
      (λ k d below. let h = was.1 (k + 1) d in grind rules),
      numbered_more c.loop-reader.readers.items c.push.new.self.items c.in-Some.reader was.2 next c.in_ok-push.ensures.items,
    )
