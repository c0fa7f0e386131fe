-- What the part evaluates has its words, and what it then holds is its piece.
use Rattle.std.proofs.Common.{subst, sym, ◌≡◌, ◌∙◌}
use Rattle.cif_defs.specs.Loop.{IsLevelled}
use Rattle.cif_defs.specs.Netlist.{IsWired}
use Rattle.cif_seq.specs.Cases.{CaseOf, net_of}
use Rattle.cif_seq.specs.Stored.{AreStored}
use Rattle.cif_parts.proofs.Done.{part_done_of, part_stored}
use Rattle.cif_parts.proofs.run.part_from.Goals as goal

pub settled-requires-clause-stored : goal.settled-requires-clause-stored
settled-requires-clause-stored c =
    let same : c.deref-2.result.now ≡ c.args.case.now.value = c.deref-2.ensures ∙ c.in_ok-case.ensures in
    subst (λ (x : CaseOf). AreStored (net_of x) c.args.begun.stored.values.items c.args.begun.stored.taints.items c.args.begun.stored.flags.items c.passing.result.now) (sym same)
    (part_stored c.args.case.now.value c.args.cycle c.args.plan.now c.args.part c.passing.result.now c.args.begun.stored c.args.begun.inputs c.args.begun.bits c.requires.plan c.requires.part c.passing.ensures c.requires.begins)

pub of-requires-clause-holds : goal.of-requires-clause-holds
of-requires-clause-holds c =
    let seen : c.deref-2.result.now ≡ c.args.case.now.value = c.deref-2.ensures ∙ c.in_ok-case.ensures in
    let leveled : c.deref.result.now ≡ c.args.case.now.value = c.deref.ensures ∙ c.in_ok-case.ensures in
    part_done_of c.args.case.now.value c.deref-2.result.now c.in_ok-case.case.value c.args.cycle c.parts-parts.result c.args.plan.now c.args.part c.passing.result.now c.args.begun.bits _ seen c.in_ok-case.ensures c.parts-parts.ensures.is
    (subst (λ (x : CaseOf). IsWired (net_of x)) leveled c.levels-levels.ensures.wired) (subst (λ (x : CaseOf). IsLevelled (net_of x) x.order) leveled c.levels-levels.ensures.levelled)
    c.requires.plan c.requires.part c.passing.ensures c.requires.begins c.in_ok-values.ensures.shown c.in_ok-values.ensures.notes c.in_ok-values.ensures.as_many_values c.in_ok-values.ensures.as_many_taints c.in_ok-values.ensures.as_many_marks
