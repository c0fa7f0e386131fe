use Rattle.std.proofs.Common.{◌≡◌, drop}
use Rattle.std.specs.List.{flat_map}
use Rattle.cif_checks.specs.Checks.{first_fault}
use Rattle.cif_nets.specs.Clocks.{edge_fault, uses_of}
use Rattle.cif_nets.proofs.clock.check_cells.Given as goal

abbrev pub invariant-loop-cell : goal.invariant-loop-cell
invariant-loop-cell l = first_fault (edge_fault l.ports l.wanted.edge) (flat_map uses_of (drop l.cell-index l.cells)) ≡ first_fault (edge_fault l.ports l.wanted.edge) (flat_map uses_of l.cells)
