use Rattle.std.proofs.Common.{refl, sym}
use Rattle.cif_nets.specs.Drives.{driven_more}
use Rattle.cif_nets.proofs.DriveLaws.{cell_recorded, cell_unknown}
use Rattle.cif_nets.proofs.drives.record_cell.Goals as goal

pub returns-in-Some : goal.returns-in-Some
returns-in-Some c = cell_recorded driven_more c.args.numbers.now c.args.drives.now _ c.args.index c.args.cell.now c.args.cell.now.kind c.in-Some.kind c.in-Some.ensures refl c.record_kind.ensures

pub returns-in_default : goal.returns-in_default
returns-in_default c = cell_unknown driven_more c.args.numbers.now c.args.drives.now c.args.index c.args.cell.now c.args.cell.now.kind c.requires.same c.in_default.ensures refl

pub record_kind-requires-clause-known : goal.record_kind-requires-clause-known
record_kind-requires-clause-known c = sym c.in-Some.ensures
