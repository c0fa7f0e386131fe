-- The words are those of the cycle, so they are as long as the states of the cells; and what is settled is the frame.
use Rattle.std.proofs.Common.{◌∙◌, ◌≡◌, ℕ, List, ap, refl, sym, subst, length}
use Rattle.cif_defs.specs.Loop.{IsLevelled}
use Rattle.cif_defs.specs.Netlist.{IsWired}
use Rattle.cif_readers.specs.Reads.{Notes}
use Rattle.cif_shown.specs.Shown.{CoverBits, MayBegin, Shows, all_bits}
use Rattle.cif_shown.proofs.Covering.{order_covers}
use Rattle.cif_seq.specs.Cases.{CaseOf, net_of}
use Rattle.cif_seq.specs.FrameView.{HoldsFrame}
use Rattle.cif_seq.specs.GivenAt.{given_at}
use Rattle.cif_seq.specs.Stored.{ArePassing, AreStored}
use Rattle.cif_seq.proofs.FrameLaws.{holds_frame}
use Rattle.cif_seq.proofs.StateWidths.{all_stored, is_stored}
use Rattle.cif_seq.proofs.frame.frame_with.Goals as goal

pub settled-requires-clause-passing : goal.settled-requires-clause-passing
settled-requires-clause-passing c =
    let same : c.items.result.now ≡ c.deref.result.now.order = c.items.ensures ∙ c.levels-levels.ensures.are in
    let here : c.deref-2.result.now ≡ c.deref.result.now = c.deref-2.ensures ∙ sym c.deref.ensures in
    subst (λ (x : CaseOf). ArePassing (net_of x) c.items.result.now) (sym here) (subst (λ (xs : List ℕ). ArePassing (net_of c.deref.result.now) xs) (sym same) (λ i l. c.levels-levels.ensures.levelled.only_passing i l))

pub settled-requires-clause-stored : goal.settled-requires-clause-stored
settled-requires-clause-stored c =
    let same : c.items.result.now ≡ c.deref.result.now.order = c.items.ensures ∙ c.levels-levels.ensures.are in
    let here : c.deref-2.result.now ≡ c.args.case.now.value = c.deref-2.ensures ∙ c.in_ok-case.ensures in
    let first : c.deref.result.now ≡ c.args.case.now.value = c.deref.ensures ∙ c.in_ok-case.ensures in
    subst (λ (x : CaseOf). AreStored (net_of x) c.args.stored.values.items c.args.stored.taints.items c.args.stored.flags.items c.items.result.now) (sym here)
    (all_stored (net_of c.args.case.now.value) c.args.stored.values.items c.args.stored.taints.items c.args.stored.flags.items c.items.result.now
    (subst (λ (x : CaseOf). ArePassing (net_of x) c.items.result.now) first (subst (λ (xs : List ℕ). ArePassing (net_of c.deref.result.now) xs) (sym same) (λ i l. c.levels-levels.ensures.levelled.only_passing i l)))
    (is_stored (net_of c.args.case.now.value) c.args.case.now.value.stimulus c.args.cycle _ _ _ c.requires.values c.requires.taints c.requires.flags))

pub of-requires : goal.of-requires
of-requires c =
    let first : c.deref.result.now ≡ c.args.case.now.value = c.deref.ensures ∙ c.in_ok-case.ensures in
    let same : c.deref-2.result.now ≡ c.args.case.now.value = c.deref-2.ensures ∙ c.in_ok-case.ensures in
    let here : c.deref-2.result.now ≡ c.deref.result.now = c.deref-2.ensures ∙ sym c.deref.ensures in
    let cells : c.items.result.now ≡ c.deref-2.result.now.order = c.items.ensures ∙ c.levels-levels.ensures.are ∙ sym (ap (λ (x : CaseOf). x.order) here) in
    let levelled : IsLevelled (net_of c.deref-2.result.now) c.deref-2.result.now.order = subst (λ (x : CaseOf). IsLevelled (net_of x) x.order) (sym here) c.levels-levels.ensures.levelled in
    let covers : CoverBits (net_of c.deref-2.result.now) c.deref-2.result.now.order c.items.result.now all_bits =
    subst (λ (xs : List ℕ). CoverBits (net_of c.deref-2.result.now) c.deref-2.result.now.order xs all_bits) (sym cells) (order_covers (net_of c.deref-2.result.now) c.deref-2.result.now.order levelled) in
    let begins : MayBegin all_bits (net_of c.deref-2.result.now) (given_at c.deref-2.result.now c.args.stored c.args.inputs) c.items.result.now c.args.begun.marks.items c.args.begun.values.items c.args.begun.taints.items =
    subst (λ (xs : List ℕ). MayBegin all_bits (net_of c.deref-2.result.now) (given_at c.deref-2.result.now c.args.stored c.args.inputs) xs c.args.begun.marks.items c.args.begun.values.items c.args.begun.taints.items) (sym cells)
    (subst (λ (x : CaseOf). MayBegin all_bits (net_of x) (given_at x c.args.stored c.args.inputs) x.order c.args.begun.marks.items c.args.begun.values.items c.args.begun.taints.items) (sym same) c.requires.begins) in
    subst (λ (x : CaseOf). HoldsFrame x c.args.cycle c.in_ok-bits.bits.values.items c.in_ok-bits.bits.taints.items c.args.stored.values.items c.args.stored.taints.items c.args.stored.flags.items c.in_ok-bits.bits.marks.items c.args.inputs) (sym c.in_ok-case.ensures)
    (holds_frame c.args.case.now.value c.args.cycle _ _ _ _ _ c.args.begun.values.items c.args.begun.taints.items c.args.begun.marks.items _ c.args.inputs c.requires.values c.requires.taints c.requires.flags c.requires.at
    (subst (λ (x : CaseOf). IsWired (net_of x)) first c.levels-levels.ensures.wired) (subst (λ (x : CaseOf). IsLevelled (net_of x) x.order) first c.levels-levels.ensures.levelled)
    (subst (λ (x : CaseOf). (b : ℕ) → Shows (net_of x) (given_at x c.args.stored c.args.inputs) c.in_ok-bits.bits.values.items c.in_ok-bits.bits.taints.items b) same (λ b. c.in_ok-bits.ensures.shown all_bits covers begins b refl))
    (subst (λ (x : CaseOf). length c.in_ok-bits.bits.values.items ≡ length (net_of x).drivers) same c.in_ok-bits.ensures.as_many_values)
    (subst (λ (x : CaseOf). length c.in_ok-bits.bits.taints.items ≡ length (net_of x).drivers) same c.in_ok-bits.ensures.as_many_taints)
    (subst (λ (x : CaseOf). length c.in_ok-bits.bits.marks.items ≡ length (net_of x).cells) same c.in_ok-bits.ensures.as_many_marks)
    c.requires.resting
    (subst (λ (x : CaseOf). Notes (net_of x) c.args.begun.values.items c.args.begun.taints.items c.in_ok-bits.bits.values.items c.in_ok-bits.bits.taints.items c.args.begun.marks.items c.in_ok-bits.bits.marks.items) same c.in_ok-bits.ensures.notes))
