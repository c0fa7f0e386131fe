use Rattle.cif_shapes.proofs.NoTaint.{bits_are_clear}
use Rattle.cif_shapes.proofs.OutputWidths.{widths_are_rows}
use Rattle.cif_shapes.proofs.laws.untainted_stay_untainted.Goals as goal

pub returns : goal.returns
returns c = record { bits = bits_are_clear; widths = widths_are_rows }
