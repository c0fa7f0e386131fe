use Rattle.cif_bits.proofs.WordForms.{IsNumberBelow}
use Rattle.cif_bits.proofs.digits.bits_number.Given as goal

abbrev pub invariant-loop-i : goal.invariant-loop-i
invariant-loop-i l = IsNumberBelow l.bits l.i l.total
