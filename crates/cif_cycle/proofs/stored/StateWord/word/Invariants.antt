use Rattle.std.proofs.Common.{◌≡◌, ◌+◌}
use Rattle.cif_defs.specs.Words.{bit, word}
use Rattle.cif_cycle.proofs.stored.StateWord.word.Given as goal

abbrev pub invariant-loop-i : goal.invariant-loop-i
invariant-loop-i l = l.bits.items ≡ word l.i (λ i. bit l.self (l.at + i))
