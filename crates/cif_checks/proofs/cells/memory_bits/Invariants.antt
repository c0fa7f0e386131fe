use Rattle.std.proofs.Common.{◌≡◌, ◌*◌, ◌≤◌, map, sum, take}
use Rattle.cif_checks.specs.Checks.{memory_size}
use Rattle.cif_checks.proofs.cells.memory_bits.Given as goal

abbrev pub invariant-loop-cell : goal.invariant-loop-cell
invariant-loop-cell l = record {
  counted : l.total ≡ sum (map memory_size (take l.cell-index l.cells));
  bound : l.total ≤ 17592186044416 * l.cell-index;
}
