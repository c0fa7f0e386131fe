use Rattle.std.proofs.Common.{◌≡◌, false}
use Rattle.cif_defs.specs.Words.{word, bit}
use Rattle.cif_defs.specs.RawModule.{digits_read}
use Rattle.cif_checks.specs.Checks.{has_digit}
use Rattle.cif_checks.proofs.parameters.has_value_digit.Given as goal

abbrev pub invariant-loop-index : goal.invariant-loop-index
invariant-loop-index l = has_digit l.wanted (word l.index (λ i. bit (digits_read l.value) i)) ≡ false
