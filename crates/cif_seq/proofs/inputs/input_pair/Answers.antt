use Rattle.std.proofs.Common.{subst, sym}
use Rattle.cif_defs.specs.Accepted.{netlist_of}
use Rattle.cif_defs.specs.Stimulus.{Stimulus}
use Rattle.cif_defs.specs.declared.raw_module.Raw.{Raw}
use Rattle.cif_inputs.specs.Cursor.{IsAt}
use Rattle.cif_seq.specs.Cases.{net_of}
use Rattle.cif_seq.proofs.inputs.input_pair.Goals as goal

pub pair-requires-clause-at : goal.pair-requires-clause-at
pair-requires-clause-at c =
    let at : IsAt (net_of c.args.case.now) c.args.case.now.stimulus c.names.result.now c.args.inputs.now = c.requires.at.at c.names.result.now c.names.ensures in
    let P : Raw → Type 0 = λ r. IsAt (netlist_of r) c.args.case.now.stimulus c.names.result.now c.args.inputs.now in
    let Q : Stimulus → Type 0 = λ s. IsAt (netlist_of c.netlist.result.now) s c.names.result.now c.args.inputs.now in
    subst Q (sym c.stimulus.ensures.is) (subst P (sym c.netlist.ensures) at)
