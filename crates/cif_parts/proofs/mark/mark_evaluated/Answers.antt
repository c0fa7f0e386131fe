use Rattle.std.proofs.Common.{◌∙◌, List, Bool, ap, subst, length, arith}
use Rattle.cif_defs.specs.Accepted.{netlist_of}
use Rattle.cif_level.proofs.Outputs.{one_output}
use Rattle.cif_parts.specs.Marking.{Adds}
use Rattle.cif_parts.specs.Walks.{IsMetFrom}
use Rattle.cif_parts.specs.declared.walk.Walk.TheVariants.{Operands}
use Rattle.cif_parts.proofs.Leading.{closed_first, closed_last}
use Rattle.cif_parts.proofs.mark.mark_evaluated.Goals as goal

pub returns-clause-marks : goal.returns-clause-marks
returns-clause-marks c = λ parts part h.
    closed_last (netlist_of c.args.netlist.now) c.args.order.now parts part 0 _ c.requires.levelled (omega arith) (c.mark_leading.ensures.closed parts part
    (closed_first (netlist_of c.args.netlist.now) c.args.order.now parts part (length c.args.order.now) c.args.owned.now c.mark_met_from_all.new.marks c.cells-accepted.ensures.wired (one_output c.args.netlist.now c.cells-accepted.ensures.accepted) (omega arith) h
    (subst (λ (m : List Bool). Adds m c.mark_met_from_all.new.marks (IsMetFrom Operands (netlist_of c.args.netlist.now) c.args.owned.now (length (netlist_of c.args.netlist.now).cells))) c.requires.same c.mark_met_from_all.ensures)))

pub returns-clause-as_many : goal.returns-clause-as_many
returns-clause-as_many c = c.mark_leading.ensures.as_many ∙ c.mark_met_from_all.ensures.as_many ∙ ap length c.requires.same ∙ c.requires.as_many
