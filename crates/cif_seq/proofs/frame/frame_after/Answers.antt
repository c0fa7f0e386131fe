-- What is stored next is what the definitions store next, and the frame begins with what the one before held.
use Rattle.std.proofs.Common.{◌∙◌, ◌≡◌, ◌++◌, ap, arith, drop, length, refl, sym, subst, take}
use Rattle.cif_defs.specs.Accepted.{netlist_of}
use Rattle.cif_defs.specs.declared.raw_module.Raw.{Raw}
use Rattle.cif_defs.specs.Loop.{IsLevelled}
use Rattle.cif_defs.specs.Netlist.{IsWired}
use Rattle.cif_seq.specs.Cases.{CaseOf, net_of}
use Rattle.cif_seq.specs.Stored.{IsStored}
use Rattle.cif_seq.proofs.FrameLaws.{next_flags_of, next_state_of, next_taints_of}
use Rattle.cif_seq.proofs.NextFrames.{begins_next, rests_next}
use Rattle.cif_seq.proofs.Slices.{whole_slice}
use Rattle.cif_seq.proofs.StateWidths.{frame_stored}
use Rattle.cif_seq.proofs.frame.frame_after.Goals as goal

pub move_cells-requires-clause-stored : goal.move_cells-requires-clause-stored
move_cells-requires-clause-stored c =
    let same : c.netlist.result.now ≡ c.args.case.now.value.raw = c.netlist.ensures ∙ ap (λ (x : CaseOf). x.raw) c.deref-3.ensures in
    subst (λ (x : Raw). IsStored (netlist_of x) c.args.stored.values.items c.args.stored.taints.items c.args.stored.flags.items) (sym same)
    (frame_stored (net_of c.args.case.now.value) c.args.case.now.value.stimulus c.args.cycle _ _ _ _ _ c.requires.holds.shown)

pub frame_with-requires-clause-values : goal.frame_with-requires-clause-values
frame_with-requires-clause-values c =
    next_state_of c.args.case.now.value c.args.cycle _ _ _ _ _ _ _ _ c.requires.holds.shown (c.netlist.ensures ∙ ap (λ (x : CaseOf). x.raw) c.deref-3.ensures) c.deref-4.ensures.value c.in_ok-move_cells.ensures.values

pub frame_with-requires-clause-taints : goal.frame_with-requires-clause-taints
frame_with-requires-clause-taints c =
    next_taints_of c.args.case.now.value c.args.cycle _ _ _ _ _ _ _ _ _ c.requires.holds.shown (c.netlist.ensures ∙ ap (λ (x : CaseOf). x.raw) c.deref-3.ensures) c.deref-4.ensures.value c.deref-5.ensures.value c.in_ok-move_cells.ensures.taints

pub frame_with-requires-clause-flags : goal.frame_with-requires-clause-flags
frame_with-requires-clause-flags c =
    next_flags_of c.args.case.now.value c.args.cycle _ _ _ _ _ _ _ _ _ c.requires.holds.shown (c.netlist.ensures ∙ ap (λ (x : CaseOf). x.raw) c.deref-3.ensures) c.deref-4.ensures.value c.deref-5.ensures.value c.in_ok-move_cells.ensures.flags

pub frame_with-requires-clause-begins : goal.frame_with-requires-clause-begins
frame_with-requires-clause-begins c =
    let size : length c.move_cells.new.marks ≡ length c.args.bits.marks.items = c.move_cells.ensures.as_many ∙ ap length c.deref_mut.ensures.value in
    let whole : take c.args.bits.marks.len (c.move_cells.new.marks ++ drop (length c.move_cells.new.marks) c.args.bits.marks.items) ≡ c.move_cells.new.marks = whole_slice c.args.bits.marks.len c.move_cells.new.marks c.args.bits.marks.items size (omega (arith, c.deref_mut.ensures.len)) in
    begins_next c.args.case.now.value _ _ c.args.bits.values.items c.args.bits.taints.items c.move_cells.new.marks _ _ _ c.args.stored c.move_cells.new.stored c.in_ok-inputs.inputs
    (subst (λ (x : CaseOf). IsWired (net_of x)) c.deref-2.ensures c.levels-levels.ensures.wired) (subst (λ (x : CaseOf). IsLevelled (net_of x) x.order) c.deref-2.ensures c.levels-levels.ensures.levelled)
    c.requires.holds.shows c.in_ok-move_cells.ensures.kept refl refl whole

pub frame_with-requires-clause-resting : goal.frame_with-requires-clause-resting
frame_with-requires-clause-resting c =
    let same : c.netlist.result.now ≡ c.args.case.now.value.raw = c.netlist.ensures ∙ ap (λ (x : CaseOf). x.raw) c.deref-3.ensures in
    let stored = subst (λ (x : Raw). IsStored (netlist_of x) c.args.stored.values.items c.args.stored.taints.items c.args.stored.flags.items) (sym same)
    (frame_stored (net_of c.args.case.now.value) c.args.case.now.value.stimulus c.args.cycle _ _ _ _ _ c.requires.holds.shown) in
    let size : length c.move_cells.new.marks ≡ length c.args.bits.marks.items = c.move_cells.ensures.as_many ∙ ap length c.deref_mut.ensures.value in
    let whole : take c.args.bits.marks.len (c.move_cells.new.marks ++ drop (length c.move_cells.new.marks) c.args.bits.marks.items) ≡ c.move_cells.new.marks = whole_slice c.args.bits.marks.len c.move_cells.new.marks c.args.bits.marks.items size (omega (arith, c.deref_mut.ensures.len)) in
    rests_next c.args.case.now.value c.netlist.result.now c.args.bits.values.items c.args.bits.taints.items c.deref-4.result.now c.deref-5.result.now c.move_cells.new.marks _ _ _ c.args.stored c.move_cells.new.stored
    same c.deref-4.ensures.value c.deref-5.ensures.value stored c.in_ok-move_cells.ensures.values c.in_ok-move_cells.ensures.taints c.in_ok-move_cells.ensures.flags c.in_ok-move_cells.ensures.kept
    refl refl whole
