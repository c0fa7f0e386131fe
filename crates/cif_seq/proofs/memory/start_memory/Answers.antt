-- The words with which a memory starts are short.
use Rattle.cif_seq.proofs.CellStates.{start_short, taint_short}
use Rattle.cif_seq.proofs.memory.start_memory.Goals as goal

pub paged-requires : goal.paged-requires
paged-requires c = start_short c.args.netlist.now c.args.stimulus.now c.args.number _ _ c.cells-cells.ensures.accepted c.requires.number c.deref.ensures.value c.in_ok-start.ensures.value

pub paged-requires-2 : goal.paged-requires-2
paged-requires-2 c = taint_short c.args.netlist.now c.args.stimulus.now c.args.number _ _ c.cells-cells.ensures.accepted c.requires.number c.deref-2.ensures.value c.in_ok-start.ensures.taint
