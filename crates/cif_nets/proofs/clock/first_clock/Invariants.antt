use Rattle.std.proofs.Common.{◌≡◌, drop}
use Rattle.std.specs.List.{flat_map}
use Rattle.cif_nets.specs.Clocks.{first_edge, uses_of}
use Rattle.cif_nets.proofs.clock.first_clock.Given as goal

abbrev pub invariant-loop-cell : goal.invariant-loop-cell
invariant-loop-cell l = first_edge (flat_map uses_of (drop l.cell-index l.cells)) ≡ first_edge (flat_map uses_of l.cells)
