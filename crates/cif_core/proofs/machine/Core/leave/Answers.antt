use Rattle.std.proofs.Common.{◌≡◌, ◌-◌, None, ap, ◌∙◌, rules, drop, length, set}
use Rattle.cif_core.specs.Frames.{first_kept}
use Rattle.cif_core.specs.Machine.{floor_of}
use Rattle.cif_core.proofs.HeldPieces.{holds-leave}
use Rattle.cif_core.proofs.machine.Core.leave.Goals as goal

pub invariant_of-self : goal.invariant_of-self
invariant_of-self g c =
    let h = c.self.invariant in
    let done = c.self.inside.done in
    let old = c.self.inside.shelf.frames in
    let low : c.lowest-low.result ≡ floor_of done (set c.self.inside.wants.items c.args.session None) = search rules in
    let count = c.kept_count.ensures ∙ ap (λ k. done - first_kept done k) low in
    (h.0, holds-leave _ _ _ _ _ c.args.session _ _ _ h.1 (c.keep_last.ensures.frames ∙ ap (λ k. drop (length old - k) old) count) c.keep_last.ensures.room)
