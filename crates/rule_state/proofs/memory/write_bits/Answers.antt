-- All bits are written.
use Rattle.std.proofs.Common.{false, arith}
use Rattle.std.proofs.lemmas.List.FromFn.{fill_by_all}
use Rattle.rule_state.proofs.memory.write_bits.Goals as goal

pub returns : goal.returns
returns c = fill_by_all _ _ _ false c.loop-index.invariant.0 (λ k h. c.loop-index.invariant.1 k (omega arith))
