use Rattle.std.proofs.Common.{◌≡◌, ◌≤◌, drop}
use Rattle.cif_core.specs.Machine.{floor_of}
use Rattle.cif_core.proofs.scan.lowest.Given as goal

abbrev pub invariant-loop-want : goal.invariant-loop-want
invariant-loop-want l = (floor_of l.least (drop l.want-index l.wants) ≡ floor_of l.low l.wants) × (l.least ≤ l.low)
