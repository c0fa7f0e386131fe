use Rattle.std.proofs.Common.{◌≤◌, ◌-◌, length}
use Rattle.cif_defs.proofs.NamesInOrder.{RiseTo}
use Rattle.cif_defs.proofs.named.are_in_order.Given as goal

abbrev pub invariant-loop-index : goal.invariant-loop-index
invariant-loop-index g l = record {
  start : 1 ≤ l.index;
  rise : RiseTo g.T.Named.name_of l.things l.index;
}

abbrev pub decreases-loop-index : goal.decreases-loop-index
decreases-loop-index g l = length l.initial.things - l.index
