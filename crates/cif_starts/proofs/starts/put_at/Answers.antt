use Rattle.std.proofs.Common.{arith, refl}
use Rattle.cif_cycle.proofs.PutRows.{put_more}
use Rattle.cif_starts.proofs.starts.put_at.Goals as goal

pub loop-i-preserved : goal.loop-i-preserved
loop-i-preserved c = put_more _ _ _ _ _ _ _ c.loop-i.invariant (omega arith) refl c.bit_of.ensures
