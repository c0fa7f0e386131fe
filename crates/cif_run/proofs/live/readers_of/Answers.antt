use Rattle.std.proofs.Common.{◌≡◌, ◌+◌, ap, length, rules, vec_len, ◌∙◌}
use Rattle.cif_hall.specs.Sessions.{SessionOf, new_session}
use Rattle.cif_run.proofs.Listing.{numbered_more}
use Rattle.cif_run.proofs.live.readers_of.Goals as goal

pub loop-session-preserved : goal.loop-session-preserved
loop-session-preserved g c =
    let was = c.loop-session.invariant in let step = c.in-Some.ensures.steps in let done = length c.loop-session.readers.items in
    let here : c.in-Some.session ≡ new_session done = let h = was.1 0 c.in-Some.session in grind rules in
    let next : c.new.result.number ≡ done = c.new.ensures.number ∙ ap (λ (s : SessionOf). s.number) here in
    let grown : vec_len c.push.new.self ≡ done + 1 = search rules in (
      search rules,
      (λ k d below. let h = was.1 (k + 1) d in grind rules),
      numbered_more c.loop-session.readers.items c.push.new.self.items c.new.result was.2 next c.in_ok-push.ensures.items,
    )
