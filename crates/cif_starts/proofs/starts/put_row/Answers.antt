use Rattle.cif_cycle.proofs.PutRows.{row_put, row_past}
use Rattle.cif_starts.proofs.starts.put_row.Goals as goal

pub returns-then-row-rows : goal.returns-then-row-rows
returns-then-row-rows c = row_put c.args.rows c.args.width c.args.row c.args.source.now c.args.bits.now c.put_at.new.bits c.requires c.put_at.ensures

pub returns-else-row-rows : goal.returns-else-row-rows
returns-else-row-rows c = row_past c.args.rows c.args.width c.args.row c.args.source.now c.args.bits.now c.requires c.if-row-rows.false
