-- A source that may have changed is set, and any other shows what it is given already.
use Rattle.std.proofs.Common.{◌∙◌, ap, arith, refl}
use Rattle.cif_defs.specs.Accepted.{netlist_of}
use Rattle.cif_defs.specs.declared.raw_module.Raw.{Raw}
use Rattle.cif_shown.specs.Shown.{is_open}
use Rattle.cif_seq.specs.Cases.{net_of}
use Rattle.cif_seq.specs.GivenAt.{given_at}
use Rattle.cif_seq.proofs.Settling.{source_passed_over, source_placed}
use Rattle.cif_seq.proofs.settle.set_source.Goals as goal

pub returns-then-not-is_open-clause-shown : goal.returns-then-not-is_open-clause-shown
returns-then-not-is_open-clause-shown c = λ covered cells sources i k s l at h.
    source_passed_over (net_of c.args.case.now) (given_at c.args.case.now c.args.stored.now c.args.inputs.now) cells sources covered i c.args.net c.args.values.now c.args.taints.now c.args.marks.now _ at c.if-not-is_open.true
    (c.is_open.ensures ∙ ap (λ (x : Raw). is_open (netlist_of x) c.args.marks.now c.args.net) c.netlist.ensures) h

pub returns-clause-shown : goal.returns-clause-shown
returns-clause-shown c = λ covered cells sources i k s l at h.
    source_placed (net_of c.args.case.now) (given_at c.args.case.now c.args.stored.now c.args.inputs.now) c.args.case.now.order cells sources covered i c.args.net _ _ _ _ c.released-released.result.now c.args.values.now c.args.taints.now _ _ c.args.marks.now _
    c.levels-levels.ensures.wired c.levels-levels.ensures.levelled k s l at c.requires.as_many_values c.requires.as_many_taints c.released-released.ensures
    c.bit_of.ensures c.start_pair-pair.ensures.value c.start_pair-pair.ensures.taint refl c.set_bit.ensures.values c.set_bit.ensures.taints
    (c.set_bit.ensures.notes (net_of c.args.case.now) c.readers.ensures (omega (arith, c.requires.as_many_marks))) h
