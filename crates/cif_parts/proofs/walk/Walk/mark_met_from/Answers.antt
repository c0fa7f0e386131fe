use Rattle.std.proofs.Common.{◌∙◌, ◌≤◌, ◌+◌, Bool, List, [], ap, sym, subst, length, get_or}
use Rattle.cif_defs.specs.Accepted.{netlist_of}
use Rattle.cif_defs.specs.Cells.{Cell}
use Rattle.cif_defs.specs.Kinds.{role_of}
use Rattle.cif_defs.specs.Netlist.{cell_at}
use Rattle.cif_parts.specs.Marking.{Adds}
use Rattle.cif_parts.specs.Walks.{IsMetBefore, takes_operand}
use Rattle.cif_parts.proofs.Meeting.{all_met, more_before, none_before}
use Rattle.cif_parts.proofs.walk.Walk.mark_met_from.Goals as goal
use Rattle.cif_parts.proofs.walk.Walk.mark_met_from.Goals.{then-takes_operand, else-takes_operand}

pub loop-port-init : goal.loop-port-init
loop-port-init c = Rattle.cif_parts.proofs.Meeting.nothing_before c.args.self (netlist_of c.args.netlist.now) c.args.number c.args.marks.now

pub loop-port-preserved : goal.loop-port-preserved
loop-port-preserved c =
    let taken = sym (c.takes_operand.ensures ∙ ap (λ (x : Cell). takes_operand c.args.self (role_of x.kind) x c.loop-port.port) c.cell_of-cell.ensures.is) in
    elim c.if-takes_operand.branch [
      | then-takes_operand w ↦ subst (λ (m : List Bool). Adds c.args.marks.now m (IsMetBefore c.args.self (netlist_of c.args.netlist.now) c.args.number (c.loop-port.port + 1))) (sym w.marks-is)
          (more_before c.args.self (netlist_of c.args.netlist.now) c.args.number c.loop-port.port w.operand.result.now c.args.marks.now c.loop-port.marks w.mark_met_among.new.marks
          (w.operand.ensures ∙ ap (λ (x : Cell). get_or x.operands c.loop-port.port []) c.cell_of-cell.ensures.is) (taken ∙ w.if-takes_operand.true) c.loop-port.invariant w.mark_met_among.ensures)
      | else-takes_operand w ↦ subst (λ (m : List Bool). Adds c.args.marks.now m (IsMetBefore c.args.self (netlist_of c.args.netlist.now) c.args.number (c.loop-port.port + 1))) (sym w.marks-is)
          (none_before c.args.self (netlist_of c.args.netlist.now) c.args.number c.loop-port.port c.args.marks.now c.loop-port.marks (taken ∙ w.if-takes_operand.false) c.loop-port.invariant)
    ]

pub returns : goal.returns
returns c =
    let past : length (cell_at (netlist_of c.args.netlist.now) c.args.number).operands ≤ c.loop-port.port =
    subst (λ (x : Cell). length x.operands ≤ c.loop-port.port) c.cell_of-cell.ensures.is (subst (λ xs. length xs ≤ c.loop-port.port) c.operands.ensures c.loop-port-test.false) in
    all_met c.args.self (netlist_of c.args.netlist.now) c.args.number c.loop-port.port c.args.marks.now c.loop-port.marks past c.loop-port.invariant
