use Rattle.std.proofs.Common.{◌≡◌}
use Rattle.cif_defs.specs.Words.{word_of}
use Rattle.cif_bits.proofs.digits.number_bits.Given as goal

abbrev pub invariant-loop-i : goal.invariant-loop-i
invariant-loop-i l = l.bits.items ≡ word_of l.i l.number
