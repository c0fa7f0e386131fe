use Rattle.std.proofs.Common.{◌≡◌, ◌++◌, drop}
use Rattle.std.specs.List.{flat_map}
use Rattle.cif_augment.specs.Taken.{wanted_for_cell}
use Rattle.cif_augment.proofs.wanted.push_for_cells.Given as goal

abbrev pub invariant-loop-cell : goal.invariant-loop-cell
invariant-loop-cell l = l.names.items ++ flat_map wanted_for_cell (drop l.cell-index l.cells) ≡ l.initial.names.items ++ flat_map wanted_for_cell l.cells
