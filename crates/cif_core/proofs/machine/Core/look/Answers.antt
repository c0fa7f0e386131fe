use Rattle.std.proofs.Common.{◌≡◌, ◌≤◌, ◌-◌, ap, ◌∙◌, arith, rules, get_or}
use Rattle.cif_core.specs.Machine.{floor_of}
use Rattle.cif_core.proofs.HeldPieces.{shelf-length}
use Rattle.cif_core.proofs.KeptFrames.{shelf-at}
use Rattle.cif_core.proofs.machine.Core.look.Goals as goal

pub overflow_sub-first : goal.overflow_sub-first
overflow_sub-first g c =
    let len = shelf-length _ _ _ _ _ _ _ c.self.invariant.1 in
    omega arith

pub overflow_sub-cycle : goal.overflow_sub-cycle
overflow_sub-cycle g c =
    let len = shelf-length _ _ _ _ _ _ _ c.self.invariant.1 in
    let low : c.lowest-low.result ≡ floor_of c.self.inside.done c.self.inside.wants.items = search rules in
    omega arith

pub get-requires : goal.get-requires
get-requires g c =
    let len = shelf-length _ _ _ _ _ _ _ c.self.invariant.1 in
    let low : c.lowest-low.result ≡ floor_of c.self.inside.done c.self.inside.wants.items = search rules in
    omega arith

pub returns-clause-ok : goal.returns-clause-ok
returns-clause-ok g c =
    let h = c.self.invariant.1 in
    let v = c.in_ok-get.field-0.value in
    let low : c.lowest-low.result ≡ floor_of c.self.inside.done c.self.inside.wants.items = search rules in
    let from : floor_of c.self.inside.done c.self.inside.wants.items ≤ c.args.cycle = omega arith in
    rw (← c.self.view_is) (from, (omega arith), c.in_ok-get.ensures ∙ ap (λ n. get_or c.self.inside.shelf.frames (c.args.cycle - (c.self.inside.done - n)) v) c.len.ensures ∙ shelf-at _ _ _ _ _ v h.frames from (omega arith))
