use Rattle.std.proofs.Common.{rules}
use Rattle.cif_core.proofs.Facts.{freed-same}
use Rattle.cif_core.proofs.scan.free_all.Goals as goal

pub returns : goal.returns
returns c = let inv = c.loop-i.invariant in freed-same _ _ inv.0 (λ k h. inv.1 k (search rules))
