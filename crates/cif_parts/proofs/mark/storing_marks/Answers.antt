use Rattle.cif_defs.specs.Accepted.{netlist_of}
use Rattle.cif_parts.specs.Marking.{IsStoring}
use Rattle.cif_parts.proofs.Marks.{more_marks}
use Rattle.cif_parts.proofs.mark.storing_marks.Goals as goal

pub loop-number-preserved : goal.loop-number-preserved
loop-number-preserved c = more_marks (IsStoring (netlist_of c.args.netlist.now) c.args.marks.now) c.loop-number.number _ _ _ c.in_ok-push.ensures.items
    (λ h. record { marked = c.is_storing.ensures.marked h; storing = c.is_storing.ensures.storing h }) c.is_storing.ensures.each c.loop-number.invariant
