-- The words that are written are as long as the state of the cell.
use Rattle.cif_defs.specs.Accepted.{netlist_of}
use Rattle.std.proofs.Common.{refl}
use Rattle.cif_seq.proofs.Moved.{moved_stored}
use Rattle.cif_seq.proofs.state.move_cell.Goals as goal

pub returns-clause-stored : goal.returns-clause-stored
returns-clause-stored c =
    moved_stored (netlist_of c.args.netlist.now) c.args.stored.now.values.items c.args.stored.now.taints.items c.args.stored.now.flags.items _ _ _ c.args.values.now c.args.taints.now c.args.number _ _ _ _ _
    c.requires.stored c.requires.number c.in_ok-next.ensures.value c.in_ok-next.ensures.taint refl refl refl
