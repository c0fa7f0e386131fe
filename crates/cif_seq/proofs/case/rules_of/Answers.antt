-- Each combinational cell of a netlist fits the table of kinds.
use Rattle.std.proofs.lemmas.List.Elements.{All-from_get_or}
use Rattle.cif_defs.specs.Netlist.{no_cell}
use Rattle.cif_cells.proofs.FittedCells.{fitted_at}
use Rattle.cif_shapes.specs.CellRules.{FitsItsRule}
use Rattle.cif_seq.proofs.case.rules_of.Goals as goal

pub of-requires : goal.of-requires
of-requires c = All-from_get_or FitsItsRule c.cells.result.now no_cell (λ i l r. fitted_at c.cells.result.now c.cells.ensures.fitted i l)
