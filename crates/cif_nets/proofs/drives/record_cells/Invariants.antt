use Rattle.std.proofs.Common.{◌≡◌, drop}
use Rattle.cif_defs.specs.Accepted.{driven_by_cells}
use Rattle.cif_nets.specs.Told.{told_all}
use Rattle.cif_nets.specs.Drives.{driven_more}
use Rattle.cif_nets.proofs.drives.record_cells.Given as goal

abbrev pub invariant-loop-index : goal.invariant-loop-index
invariant-loop-index l = told_all driven_more l.numbers l.drives (driven_by_cells l.index (drop l.index l.cells)) ≡ told_all driven_more l.numbers l.initial.drives (driven_by_cells 0 l.cells)
