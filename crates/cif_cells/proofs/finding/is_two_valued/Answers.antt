use Rattle.cif_cells.proofs.FindingLaws.{number_has_value}
use Rattle.cif_cells.proofs.finding.is_two_valued.Goals as goal

pub returns-then-not-is_clock : goal.returns-then-not-is_clock
returns-then-not-is_clock c =
    number_has_value c.args.nets.now c.args.clock c.args.bit c.in-Net.number c.is_clock.result c.is_driven.result c.driven_by.result
    c.in-Net.is c.requires c.is_clock.ensures c.if-not-is_clock.true c.driven_by.ensures c.is_driven.ensures
