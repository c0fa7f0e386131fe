-- The checks that go over all ports of a cell.
use Rattle.std.specs.Prelude.{Option}
use Rattle.cif_defs.specs.declared.kinds.Kind.{Kind}
use Rattle.cif_defs.specs.declared.kinds.PortRow.{PortRow}
use Rattle.cif_defs.specs.declared.raw_module.RawCell.{RawCell}
use Rattle.cif_checks.specs.declared.fault.BuildFault.{BuildFault}
use Rattle.cif_checks.specs.declared.cells.PortCheck.{PortCheck}
use Rattle.cif_checks.specs.declared.cells.PortCheck.TheVariants.{Empty, TooWide, Missing, WrongWidth}
use Rattle.cif_checks.specs.Checks.{zero_width, too_wide, missing_port, wrong_width}

-- what a check says of one port
abbrev pub row_fault : PortCheck → RawCell → Kind → PortRow → Option BuildFault
row_fault Empty c k r = zero_width c k r
row_fault TooWide c k r = too_wide c k r
row_fault Missing c k r = missing_port c r
row_fault WrongWidth c k r = wrong_width c r
