use Rattle.std.proofs.Common.{◌∙◌, ℕ, ◌+◌, ◌-◌, ◌≡◌, List, Bool, ap, sym, subst, length, get_or, arith}
use Rattle.cif_defs.specs.Accepted.{netlist_of}
use Rattle.cif_level.proofs.Outputs.{one_output}
use Rattle.cif_parts.specs.Closing.{IsClosed}
use Rattle.cif_parts.proofs.Leading.{closed_marked, closed_passed}
use Rattle.cif_parts.proofs.mark.mark_leading.Goals as goal
use Rattle.cif_parts.proofs.mark.mark_leading.Goals.{then-bit_of, else-bit_of}

pub loop-step-preserved : goal.loop-step-preserved
loop-step-preserved c =
    let i : ℕ = length c.args.order.now - (c.loop-step.step + 1) in
    let up : length c.args.order.now - c.loop-step.step ≡ i + 1 = omega arith in
    let at : length c.args.order.now - 1 - c.loop-step.step ≡ i = omega arith in
    record {
      closed = λ parts part h.
          let k = subst (λ (j : ℕ). IsClosed (netlist_of c.args.netlist.now) c.args.order.now parts part j c.loop-step.marks) up (c.loop-step.invariant.closed parts part h) in
          elim c.if-bit_of.branch [
            | then-bit_of w ↦ subst (λ (m : List Bool). IsClosed (netlist_of c.args.netlist.now) c.args.order.now parts part i m) (sym w.marks-is)
                (closed_marked (netlist_of c.args.netlist.now) c.args.order.now parts part i _ c.loop-step.marks w.mark_met_from.new.marks c.cells-accepted.ensures.wired (one_output c.args.netlist.now c.cells-accepted.ensures.accepted) c.requires.levelled (omega arith)
                (ap (λ (j : ℕ). get_or c.args.order.now j 0) at) (sym c.bit_of.ensures ∙ w.if-bit_of.true) w.mark_met_from.ensures k)
            | else-bit_of w ↦ subst (λ (m : List Bool). IsClosed (netlist_of c.args.netlist.now) c.args.order.now parts part i m) (sym w.marks-is)
                (closed_passed (netlist_of c.args.netlist.now) c.args.order.now parts part i _ c.loop-step.marks (ap (λ (j : ℕ). get_or c.args.order.now j 0) at) (sym c.bit_of.ensures ∙ w.if-bit_of.false) k)
          ];
      as_many = c.if-bit_of.auto.marks ∙ c.loop-step.invariant.as_many;
    }

pub returns-clause-closed : goal.returns-clause-closed
returns-clause-closed c = λ parts part h.
    let none : length c.args.order.now - c.loop-step.step ≡ 0 = omega arith in
    subst (λ (j : ℕ). IsClosed (netlist_of c.args.netlist.now) c.args.order.now parts part j c.loop-step.marks) none (c.loop-step.invariant.closed parts part h)
