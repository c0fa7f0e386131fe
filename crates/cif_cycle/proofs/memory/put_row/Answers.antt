use Rattle.std.proofs.Common.{arith, refl}
use Rattle.cif_cycle.proofs.PutRows.{put_more, put_done}
use Rattle.cif_cycle.proofs.memory.put_row.Goals as goal

pub set-requires : goal.set-requires
set-requires c = (let h = c.loop-i.invariant.as_long in omega arith)

pub loop-i-preserved : goal.loop-i-preserved
loop-i-preserved c = put_more _ _ _ _ _ _ _ c.loop-i.invariant (let h = c.loop-i.invariant.as_long in omega arith) c.in_ok-set.ensures.ok refl

pub returns : goal.returns
returns c = put_done _ _ _ _ _ c.loop-i.invariant (omega arith)
