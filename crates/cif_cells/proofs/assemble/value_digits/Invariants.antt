use Rattle.std.proofs.Common.{◌≡◌}
use Rattle.cif_defs.specs.Words.{bit, word}
use Rattle.cif_defs.specs.RawModule.{digits_read}
use Rattle.cif_cells.proofs.assemble.value_digits.Given as goal

abbrev pub invariant-loop-index : goal.invariant-loop-index
invariant-loop-index l = l.digits.items ≡ word l.index (λ i. bit (digits_read l.value) i)
