use Rattle.cif_defs.specs.Accepted.{netlist_of}
use Rattle.cif_starts.proofs.StartTable.{owner_inside, at_first}
use Rattle.cif_starts.proofs.starts.StartLines.of.Goals as goal

pub note-requires-clause-owner : goal.note-requires-clause-owner
note-requires-clause-owner c = owner_inside (netlist_of c.args.netlist.now).cells c.args.stimulus.now.lines _ c.loop-place.place c.loop-place.table c.owner.result c.owner.ensures c.loop-place.invariant.noted

pub returns : goal.returns
returns c = at_first _ _ c.loop-place.place c.loop-place.table c.loop-place-test.false c.loop-place.invariant.noted
