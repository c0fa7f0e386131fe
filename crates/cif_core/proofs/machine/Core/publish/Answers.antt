use Rattle.std.proofs.Common.{◌≡◌, ◌+◌, ◌-◌, true, ap, ◌∙◌, ◌++◌, ◌∷◌, [], arith, rules, drop, length}
use Rattle.cif_core.specs.Frames.{first_kept}
use Rattle.cif_core.specs.Machine.{floor_of}
use Rattle.cif_core.proofs.HeldPieces.{holds-publish, shelf-room}
use Rattle.cif_core.proofs.KeptFrames.{frame-is}
use Rattle.cif_core.proofs.KeptState.{taken-publish}
use Rattle.cif_core.proofs.machine.Core.publish.Goals as goal

pub push-requires : goal.push-requires
push-requires g c =
    let h = c.self.invariant in
    let window = h.0.least_window in
    shelf-room _ _ _ _ _ _ _ h.1 (omega arith)

pub invariant_of-self : goal.invariant_of-self
invariant_of-self g c =
    let h = c.self.invariant in
    let done = c.self.inside.done in
    let pushed = c.push.new.self.frames in
    let away : c.self.inside.assembling ≡ true = search rules in
    let cycle : c.args.frame.value.cycle ≡ done = search rules in
    let frame = frame-is c.args.frame.value g.N.Run.case done c.requires.case cycle in
    let low : c.lowest-low.result ≡ floor_of (done + 1) c.self.inside.wants.items = search rules in
    let count = c.kept_count.ensures ∙ ap (λ k. done + 1 - first_kept (done + 1) k) low in
    (h.0, rw c.free_all.ensures (holds-publish _ _ _ _ _ c.self.inside.shelf c.push.new.self _ c.self.inside.slots c.args.slots h.1 away c.requires.slots.0 c.requires.slots.1 (c.push.ensures.frames ∙ ap (λ x. c.self.inside.shelf.frames ++ x ∷ []) frame) c.push.ensures.room (c.keep_last.ensures.frames ∙ ap (λ k. drop (length pushed - k) pushed) count) c.keep_last.ensures.room))

pub returns-clause-taken : goal.returns-clause-taken
returns-clause-taken g c =
    let h = c.self.invariant.1 in
    let away : c.self.inside.assembling ≡ true = search rules in
    rw (← c.self.view_is, c.free_all.ensures) (taken-publish _ (record { done = c.self.inside.done; wants = c.self.inside.wants.items; failed = c.self.inside.failed; marks = c.self.inside.marks.items; assembling = c.self.inside.assembling }) (h.kept.whole away))
