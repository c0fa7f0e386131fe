use Rattle.std.proofs.Common.{refl}
use Rattle.cif_parts.proofs.Listings.{placed_step}
use Rattle.cif_parts.proofs.list.push_placed.Goals as goal

pub loop-number-preserved : goal.loop-number-preserved
loop-number-preserved c = λ n o h. placed_step n c.args.order.now c.args.marks.now c.loop-number.cells.items _ c.loop-number.number-index _ c.bit_of.result o c.loop-number-test.true refl c.bit_of.ensures c.in_ok-push_wanted.ensures.pushed c.in_ok-push_wanted.ensures.kept (c.loop-number.invariant n o h)
