use Rattle.std.proofs.Common.{subst, sym}
use Rattle.cif_defs.specs.Accepted.{netlist_of}
use Rattle.cif_defs.specs.Stimulus.{Stimulus}
use Rattle.cif_defs.specs.declared.raw_module.Raw.{Raw}
use Rattle.cif_inputs.specs.Cursor.{IsAt}
use Rattle.cif_seq.specs.Cases.{net_of}
use Rattle.cif_seq.proofs.inputs.next_inputs.Goals as goal

pub advance-requires-clause-at : goal.advance-requires-clause-at
advance-requires-clause-at c =
    let at : IsAt (net_of c.args.case.now) c.args.case.now.stimulus c.names.result.now c.in_ok-next.next =
    c.in_ok-next.ensures.at (net_of c.args.case.now) c.args.case.now.stimulus c.names.result.now (c.requires.at.at c.names.result.now c.names.ensures) in
    let P : Raw → Type 0 = λ r. IsAt (netlist_of r) c.args.case.now.stimulus c.names.result.now c.in_ok-next.next in
    let Q : Stimulus → Type 0 = λ s. IsAt (netlist_of c.netlist.result.now) s c.names.result.now c.in_ok-next.next in
    subst Q (sym c.stimulus.ensures.is) (subst P (sym c.netlist.ensures) at)
