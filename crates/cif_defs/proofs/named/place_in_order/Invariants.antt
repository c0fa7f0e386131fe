use Rattle.std.proofs.Common.{◌≤◌, ◌-◌, length}
use Rattle.cif_defs.proofs.NameOrder.{AreBelow, AreAbove}
use Rattle.cif_defs.proofs.named.place_in_order.Given as goal

abbrev pub invariant-loop-low : goal.invariant-loop-low
invariant-loop-low g l = record {
  order : l.low ≤ l.high;
  inside : l.high ≤ length l.things;
  below : AreBelow g.T.Named.name_of l.things l.name l.low;
  above : AreAbove g.T.Named.name_of l.things l.name l.high;
}

abbrev pub decreases-loop-low : goal.decreases-loop-low
decreases-loop-low g l = l.high - l.low
