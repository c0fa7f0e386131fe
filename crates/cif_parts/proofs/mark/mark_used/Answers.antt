use Rattle.std.proofs.Common.{List, Bool, subst, length}
use Rattle.cif_defs.specs.Accepted.{netlist_of}
use Rattle.cif_level.proofs.Outputs.{one_output}
use Rattle.cif_parts.specs.Marking.{Adds}
use Rattle.cif_parts.specs.Walks.{IsMetFrom}
use Rattle.cif_parts.specs.declared.walk.Walk.TheVariants.{Registers}
use Rattle.cif_parts.proofs.Leading.{used_marked}
use Rattle.cif_parts.proofs.mark.mark_used.Goals as goal

pub returns : goal.returns
returns c = λ parts part h.
    used_marked (netlist_of c.args.netlist.now) parts part c.args.evaluated.now c.mark_met_from_all.new.marks c.cells-accepted.ensures.wired (one_output c.args.netlist.now c.cells-accepted.ensures.accepted) h
    (subst (λ (m : List Bool). Adds m c.mark_met_from_all.new.marks (IsMetFrom Registers (netlist_of c.args.netlist.now) c.args.evaluated.now (length (netlist_of c.args.netlist.now).cells))) c.requires.same c.mark_met_from_all.ensures)
