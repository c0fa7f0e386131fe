use Rattle.cif_defs.specs.Cells.{shape_of}
use Rattle.cif_cycle.proofs.memory.read_port.Goals as goal

pub returns-clause-taint : goal.returns-clause-taint
returns-clause-taint c = c.in_ok-taint.ensures.defined (shape_of c.args.cell.now) c.args.address.now.value c.args.stored_taint.now c.in_ok-row_taint.ensures
