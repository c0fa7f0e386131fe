-- All cells are due at the start.
use Rattle.std.proofs.Common.{◌∙◌, ap, subst}
use Rattle.cif_defs.specs.Loop.{IsLevelled}
use Rattle.cif_defs.specs.Netlist.{IsWired}
use Rattle.cif_seq.specs.Cases.{CaseOf, net_of}
use Rattle.cif_seq.proofs.NextFrames.{begins_first, rests_first}
use Rattle.cif_seq.proofs.frame.first_frame.Goals as goal

pub frame_with-requires-clause-begins : goal.frame_with-requires-clause-begins
frame_with-requires-clause-begins c =
    begins_first c.args.case.now.value c.netlist-2.result.now c.in_ok-stored.stored c.in_ok-inputs.inputs _ _ _ (subst (λ (x : CaseOf). IsWired (net_of x)) c.deref.ensures c.levels-levels.ensures.wired) (subst (λ (x : CaseOf). IsLevelled (net_of x) x.order) c.deref.ensures c.levels-levels.ensures.levelled)
    (c.netlist-2.ensures ∙ ap (λ (x : CaseOf). x.raw) c.deref-5.ensures) c.in_ok-begun.ensures.values c.in_ok-begun.ensures.taints c.in_ok-begun.ensures.marks

pub frame_with-requires-clause-resting : goal.frame_with-requires-clause-resting
frame_with-requires-clause-resting c =
    rests_first c.args.case.now.value c.netlist-2.result.now c.netlist.result.now c.in_ok-stored.stored _ _ _ (c.netlist-2.ensures ∙ ap (λ (x : CaseOf). x.raw) c.deref-5.ensures) (c.netlist.ensures ∙ ap (λ (x : CaseOf). x.raw) c.deref-2.ensures)
    c.in_ok-stored.ensures.stored c.in_ok-begun.ensures.marks
