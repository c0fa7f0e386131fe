use Rattle.std.proofs.Common.{arith}
use Rattle.cif_shapes.proofs.Tables.{lut_width, moved_one}
use Rattle.cif_shapes.proofs.shape.table_size.Goals as goal

pub overflow_cast-result : goal.overflow_cast-result
overflow_cast-result c = omega (arith, lut_width c.args.cell.now c.in-Lut.ensures c.requires, c.number.ensures)

pub overflow_shl-result : goal.overflow_shl-result
overflow_shl-result c = omega (arith, lut_width c.args.cell.now c.in-Lut.ensures c.requires, c.number.ensures)

pub returns-in-Lut : goal.returns-in-Lut
returns-in-Lut c = moved_one c.args.cell.now c.number.result c.in-Lut.ensures c.requires c.number.ensures
