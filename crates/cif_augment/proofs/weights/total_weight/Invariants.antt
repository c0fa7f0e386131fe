use Rattle.std.proofs.Common.{◌≡◌, ◌*◌, ◌≤◌, take}
use Rattle.std.specs.List.{sum_by}
use Rattle.cif_defs.specs.Weights.{weight}
use Rattle.cif_augment.proofs.weights.total_weight.Given as goal

abbrev pub invariant-loop-cell : goal.invariant-loop-cell
invariant-loop-cell l = record {
  is : l.total ≡ sum_by weight (take l.cell-index l.cells);
  small : l.total ≤ l.cell-index * 4194304;
}
