use Rattle.std.proofs.Common.{◌≡◌, drop}
use Rattle.std.specs.List.{list_all}
use Rattle.cif_checks.specs.Checks.{is_table_digit}
use Rattle.cif_checks.proofs.parameters.has_only_table_digits.Given as goal

abbrev pub invariant-loop-byte : goal.invariant-loop-byte
invariant-loop-byte l = list_all is_table_digit (drop l.byte-index l.text) ≡ list_all is_table_digit l.text
