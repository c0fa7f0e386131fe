use Rattle.cif_defs.specs.Accepted.{netlist_of}
use Rattle.cif_parts.proofs.Listings.{other_step}
use Rattle.cif_parts.proofs.list.push_others.Goals as goal

pub loop-number-preserved : goal.loop-number-preserved
loop-number-preserved c = λ order o h. other_step (netlist_of c.args.netlist.now) order c.args.marks.now c.loop-number.cells.items _ c.loop-number.number c.is_other.result o c.is_other.ensures.marked c.is_other.ensures.other c.is_other.ensures.unmarked c.in_ok-push_wanted.ensures.pushed c.in_ok-push_wanted.ensures.kept (c.loop-number.invariant order o h)
