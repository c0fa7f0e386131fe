use Rattle.std.proofs.Common.{◌≡◌, ℕ, ◌<◌, false, get_or}
use Rattle.cif_defs.specs.Words.{bit, xor}
use Rattle.cif_bits.proofs.lists.write_xor.Given as goal

abbrev pub invariant-loop-i : goal.invariant-loop-i
invariant-loop-i l = (k : ℕ) → k < l.i → get_or l.out k false ≡ (xor (bit l.a k) (bit l.b k))
