use Rattle.std.proofs.Common.{◌≡◌}
use Rattle.cif_defs.specs.Words.{bit, word}
use Rattle.cif_defs.specs.Cells.{digits_of}
use Rattle.cif_registers.proofs.registers.reset_word.Given as goal

abbrev pub invariant-loop-i : goal.invariant-loop-i
invariant-loop-i l = l.bits.items ≡ word l.i (λ i. bit (digits_of l.cell l.value) i)
