use Rattle.std.proofs.Common.{◌≡◌, ◌+◌, ◌≤◌, rules, arith, ap, sym, ◌∙◌, Some, false, inl, refl, length}
use Rattle.std.specs.Prelude.{position, count_by}
use Rattle.cif_seq.specs.Cases.{CaseOf}
use Rattle.cif_core.specs.Machine.{floor_of, is_free, is_deposited}
use Rattle.cif_core.proofs.Facts.{free-mark}
use Rattle.cif_core.proofs.EventLists.{open-of}
use Rattle.cif_core.proofs.HeldPieces.{assembly-reply, full-not-due, holds-claim, not-over}
use Rattle.cif_core.proofs.KeptState.{taken-claim}
use Rattle.cif_core.proofs.machine.Core.claim.Goals as goal

pub returns-then-self-low-clause-ok : goal.returns-then-self-low-clause-ok
returns-then-self-low-clause-ok g c =
    let h = c.self.invariant in
    let total : c.cycles.result ≡ g.N.Run.case.stimulus.cycles = c.cycles.ensures ∙ ap (λ (k : CaseOf). k.stimulus.cycles) (c.deref.ensures ∙ h.0.same_case) in
    let low : c.lowest-low.result ≡ floor_of c.self.inside.done c.self.inside.wants.items = search rules in
    let window = h.0.same_window in
    let full : floor_of c.self.inside.done c.self.inside.wants.items + g.N.Run.window ≤ c.self.inside.done = omega arith in
    let fine : c.self.inside.failed ≡ false = search rules in
    rw (← c.self.view_is) (not-over _ _ _ _ total c.if-self-cycles.false fine, inl full, full-not-due _ _ _ _ _ h.1.kept h.0.counted.some full, refl)

pub invariant_of-self : goal.invariant_of-self
invariant_of-self g c =
    let h = c.self.invariant in
    let total : c.cycles.result ≡ g.N.Run.case.stimulus.cycles = c.cycles.ensures ∙ ap (λ (k : CaseOf). k.stimulus.cycles) (c.deref.ensures ∙ h.0.same_case) in
    let low : c.lowest-low.result ≡ floor_of c.self.inside.done c.self.inside.wants.items = search rules in
    let window = h.0.same_window in
    let fine : c.self.inside.failed ≡ false = search rules in
    let first : position is_free c.self.inside.marks.items ≡ Some c.in-Some.part = search rules in
    let more = not-over _ _ _ _ total c.if-self-cycles.false fine in
    (h.0, holds-claim _ _ _ _ _ _ _ c.in-Some.part h.1 (open-of _ _ _ _ _ h.1.kept more (λ (full : floor_of c.self.inside.done c.self.inside.wants.items + g.N.Run.window ≤ c.self.inside.done). omega arith)) (free-mark _ _ first))

pub returns-in-Some-clause-taken : goal.returns-in-Some-clause-taken
returns-in-Some-clause-taken g c =
    let first : position is_free c.self.inside.marks.items ≡ Some c.in-Some.part = search rules in
    rw (← c.self.view_is) (taken-claim _ (record { done = c.self.inside.done; wants = c.self.inside.wants.items; failed = c.self.inside.failed; marks = c.self.inside.marks.items; assembling = c.self.inside.assembling }) c.in-Some.part (free-mark _ _ first))

pub returns-in-Some-take-clause-ok : goal.returns-in-Some-take-clause-ok
returns-in-Some-take-clause-ok g c =
    let h = c.self.invariant in
    let total : c.cycles.result ≡ g.N.Run.case.stimulus.cycles = c.cycles.ensures ∙ ap (λ (k : CaseOf). k.stimulus.cycles) (c.deref.ensures ∙ h.0.same_case) in
    let fine : c.self.inside.failed ≡ false = search rules in
    let every : count_by is_deposited c.self.inside.marks.items ≡ length c.self.inside.marks.items = search rules in
    rw (← c.self.view_is) (assembly-reply _ _ _ _ _ _ _ _ h.1 (sym c.take.ensures.value ∙ c.in-Some-take.is) (not-over _ _ _ _ total c.if-self-cycles.false fine) (every ∙ h.1.kept.parts))
