use Rattle.std.proofs.Common.{false, arith}
use Rattle.std.proofs.lemmas.List.FromFn.{fill_by_all}
use Rattle.cif_bits.proofs.lists.write_and.Goals as goal

pub returns : goal.returns
returns c = fill_by_all _ _ _ false (omega arith) (λ k h. c.loop-i.invariant k (omega arith))
