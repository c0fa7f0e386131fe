use Rattle.std.proofs.Common.{refl, sym, ◌∙◌}
use Rattle.cif_cells.proofs.BuildLaws.{clock_found, no_clock_found}
use Rattle.cif_cells.proofs.drivers.clock_number.Goals as goal

pub returns-in-Some : goal.returns-in-Some
returns-in-Some c = c.net_number.ensures ∙ clock_found c.args.nets.now c.args.nets.now.cells c.in-Some.edge refl (sym c.in-Some.is ∙ c.clock.ensures)

pub returns-in-None : goal.returns-in-None
returns-in-None c = no_clock_found c.args.nets.now c.args.nets.now.cells refl (sym c.in-None.is ∙ c.clock.ensures)
