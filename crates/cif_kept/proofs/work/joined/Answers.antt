-- The pieces of one cycle are those of the cycle of the first.
use Rattle.std.proofs.Common.{◌∙◌, ◌<◌, ap, sym, subst}
use Rattle.cif_seq.specs.Cases.{FrameOf, frame_of}
use Rattle.cif_pieces.specs.Plans.{PlanOf}
use Rattle.cif_pieces.specs.Filled.{AllHere, cycle_here}
use Rattle.cif_pieces.proofs.Here.{all_here, cycle_is}
use Rattle.cif_kept.proofs.work.joined.Goals as goal

pub assemble-requires-clause-filled : goal.assemble-requires-clause-filled
assemble-requires-clause-filled c =
    let some : 0 < c.args.plan.now.value.parts = subst (λ (p : PlanOf). 0 < p.parts) c.deref.ensures c.parts-parts.ensures.counted.some in
    subst (λ (p : PlanOf). AllHere c.args.case.now.value (cycle_here c.args.slots.now) p.parts c.args.slots.now) (sym c.deref-2.ensures) (all_here c.args.case.now.value c.requires.here.0 c.args.plan.now.value.parts c.args.slots.now some c.requires.here.1)

pub returns-clause-frame : goal.returns-clause-frame
returns-clause-frame c = λ k here.
    let some : 0 < c.args.plan.now.value.parts = subst (λ (p : PlanOf). 0 < p.parts) c.deref.ensures c.parts-parts.ensures.counted.some in
    c.in_ok-new.ensures.ok ∙ c.in_ok-frame.ensures.frame ∙ ap (frame_of c.args.case.now.value) (cycle_is c.args.case.now.value k c.args.plan.now.value.parts c.args.slots.now some here)

pub returns-clause-case : goal.returns-clause-case
returns-clause-case c = ap (λ (f : FrameOf). f.case) (c.in_ok-new.ensures.ok ∙ c.in_ok-frame.ensures.frame)
