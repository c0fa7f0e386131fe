use Rattle.std.proofs.Common.{◌<◌, ◌-◌, ap, ◌∙◌, arith, get_or}
use Rattle.cif_core.proofs.HeldPieces.{shelf-length}
use Rattle.cif_core.proofs.KeptFrames.{last-at}
use Rattle.cif_core.proofs.machine.Core.prior.Goals as goal

pub overflow_sub-count : goal.overflow_sub-count
overflow_sub-count g c =
    let len = shelf-length _ _ _ _ _ _ _ c.self.invariant.1 in
    omega arith

pub get-requires : goal.get-requires
get-requires g c =
    let len = shelf-length _ _ _ _ _ _ _ c.self.invariant.1 in
    omega arith

pub returns-clause-ok : goal.returns-clause-ok
returns-clause-ok g c =
    let h = c.self.invariant.1 in
    let v = c.in_ok-get.field-0.value in
    let some : 0 < c.self.inside.done = omega arith in
    rw (← c.self.view_is) (some, c.in_ok-get.ensures ∙ ap (λ n. get_or c.self.inside.shelf.frames (n - 1) v) c.len-count.ensures ∙ last-at _ _ _ _ v h.frames some)
