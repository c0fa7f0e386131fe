use Rattle.std.proofs.Common.{ℕ, ◌-◌, ◌≡◌, length}
use Rattle.cif_defs.specs.Accepted.{netlist_of}
use Rattle.cif_parts.specs.Closing.{IsClosed}
use Rattle.cif_parts.proofs.mark.mark_leading.Given as goal

abbrev pub invariant-loop-step : goal.invariant-loop-step
invariant-loop-step l = record {
  closed : (parts part : ℕ) → IsClosed (netlist_of l.netlist) l.order parts part (length l.order) l.fn.marks → IsClosed (netlist_of l.netlist) l.order parts part (length l.order - l.step) l.marks;
  as_many : length l.marks ≡ length l.fn.marks;
}
