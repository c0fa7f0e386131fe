use Rattle.std.proofs.Common.{◌≡◌, map, take}
use Rattle.cif_cells.specs.Building.{driver_with}
use Rattle.cif_nets.specs.Drives.{driven_by}
use Rattle.cif_cells.proofs.drivers.drivers_read.Given as goal

abbrev pub invariant-loop-number : goal.invariant-loop-number
invariant-loop-number l = l.drivers.items ≡ map (λ x. driver_with l.clock (driven_by l.nets x) x) (take l.number-index l.numbers)
