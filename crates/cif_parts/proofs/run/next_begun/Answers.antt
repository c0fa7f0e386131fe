-- The frame's words are those of its cycle, and what is moved on begins the next.
use Rattle.std.proofs.Common.{ap, subst, sym, ◌+◌, ◌≡◌, ◌∙◌, length}
use Rattle.cif_defs.specs.Accepted.{netlist_of}
use Rattle.cif_defs.specs.declared.raw_module.Raw.{Raw}
use Rattle.cif_seq.specs.Cases.{CaseOf, net_of}
use Rattle.cif_seq.specs.FrameView.{HoldsFrame}
use Rattle.cif_seq.specs.Inputs.{StandsAt}
use Rattle.cif_seq.specs.Stored.{IsStored, given_of}
use Rattle.cif_seq.proofs.StateWidths.{frame_stored}
use Rattle.cif_parts.specs.Running.{AreClear, AreMoved, AreStoring, HavePlaces, used_cells}
use Rattle.cif_parts.proofs.Beginning.{begins_next}
use Rattle.cif_parts.proofs.Covered.{plan_storing, plan_uses, used_inside}
use Rattle.cif_parts.proofs.StoringNothing.{used_moved}
use Rattle.cif_parts.proofs.run.next_begun.Goals as goal

pub next_words-requires-clause-stored : goal.next_words-requires-clause-stored
next_words-requires-clause-stored c =
    let same : c.netlist.result.now ≡ c.args.frame.now.case.raw = c.netlist.ensures ∙ sym (ap (λ (x : CaseOf). x.raw) c.requires.same) in
    subst (λ (x : Raw). IsStored (netlist_of x) c.held-held.result.stored.now.values.items c.held-held.result.stored.now.taints.items c.held-held.result.stored.now.flags.items) (sym same)
    (frame_stored (net_of c.args.frame.now.case) c.args.frame.now.case.stimulus c.args.frame.now.cycle _ _ _ _ _ c.held-held.ensures.shown)

pub next_words-requires-clause-cells : goal.next_words-requires-clause-cells
next_words-requires-clause-cells c =
    subst (λ (x : Raw). AreStoring (netlist_of x) c.needed-needed.result.now) (sym c.netlist.ensures)
    (plan_storing c.args.case.now c.args.plan.now c.args.part c.needed-needed.result.now c.requires.plan c.requires.part c.needed-needed.ensures)

pub returns : goal.returns
returns c =
    let used = used_cells c.args.plan.now c.args.part in
    let held = subst (λ (x : CaseOf). HoldsFrame x c.args.frame.now.cycle c.held-held.result.values.now c.held-held.result.taints.now c.held-held.result.stored.now.values.items c.held-held.result.stored.now.taints.items c.held-held.result.stored.now.flags.items c.held-held.result.due.now c.held-held.result.inputs.now) c.requires.same c.held-held.ensures in
    begins_next c.args.case.now c.args.frame.now.cycle used c.held-held.result.values.now c.held-held.result.taints.now c.held-held.result.stored.now c.held-held.result.due.now c.held-held.result.inputs.now c.in_ok-stored.field-0.stored c.in_ok-inputs.inputs _
    c.levels-levels.ensures.wired held c.in_ok-from_slice.ensures.items c.in_ok-from_slice-2.ensures.items
    (c.in_ok-stored.ensures.marks ∙ ap (λ (x : Raw). length (netlist_of x).cells) c.netlist.ensures)
    (λ i l. used_inside (net_of c.args.case.now) c.args.plan.now.parts c.args.part used i (plan_uses c.args.case.now c.args.plan.now c.args.part c.requires.plan c.requires.part) l)
    (subst (λ (x : Raw). HavePlaces (netlist_of x) c.in_ok-stored.field-0.stored) c.netlist.ensures c.in_ok-stored.ensures.places)
    (used_moved c.args.case.now c.args.frame.now.cycle c.args.plan.now c.args.part c.needed-needed.result.now c.held-held.result.values.now c.held-held.result.taints.now c.held-held.result.stored.now c.held-held.result.due.now c.held-held.result.inputs.now c.in_ok-stored.field-0.stored c.in_ok-stored.field-0.marks.items
    c.requires.plan c.requires.part c.needed-needed.ensures held
    (subst (λ (x : Raw). AreClear (netlist_of x) c.in_ok-stored.field-0.stored) c.netlist.ensures c.in_ok-stored.ensures.clear)
    (subst (λ (x : Raw). AreMoved (netlist_of x) (given_of c.held-held.result.stored.now) (given_of c.in_ok-stored.field-0.stored) c.held-held.result.values.now c.held-held.result.taints.now c.in_ok-stored.field-0.marks.items c.needed-needed.result.now (length c.needed-needed.result.now)) c.netlist.ensures c.in_ok-stored.ensures.moved))
    (subst (λ k. StandsAt (net_of c.args.case.now) c.args.case.now.stimulus (k + 1) c.in_ok-inputs.inputs) held.at.cycle c.in_ok-inputs.ensures)
