use Rattle.std.proofs.Common.{◌<◌}
use Rattle.cif_defs.specs.Accepted.{netlist_of}
use Rattle.cif_parts.specs.Marking.{AreMarks, IsStoring}
use Rattle.cif_parts.proofs.mark.storing_marks.Given as goal

abbrev pub invariant-loop-number : goal.invariant-loop-number
invariant-loop-number l = AreMarks l.storing.items l.number (λ c. (c < l.number) × IsStoring (netlist_of l.netlist) l.marks c)
