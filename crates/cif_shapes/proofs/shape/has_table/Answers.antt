use Rattle.cif_shapes.proofs.Tables.{all_digits, bits_differ, other_digit, other_size}
use Rattle.cif_shapes.proofs.shape.has_table.Goals as goal

pub returns-then-digits-table_size : goal.returns-then-digits-table_size
returns-then-digits-table_size c = other_size c.args.digits.now c.args.cell.now c.table_size.result c.table_size.ensures c.if-digits-table_size.true

pub returns-then-digits-i : goal.returns-then-digits-i
returns-then-digits-i c = other_digit c.args.digits.now c.args.cell.now c.loop-i.i c.digit-own.result c.loop-i-test.true c.digit-own.ensures (bits_differ _ c.digit-own.result c.if-digits-i.true)

pub returns : goal.returns
returns c = all_digits c.args.digits.now c.args.cell.now c.table_size.result c.loop-i.i c.table_size.ensures c.if-digits-table_size.false c.loop-i-test.false c.loop-i.invariant
