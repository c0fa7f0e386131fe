use Rattle.std.proofs.Common.{◌≡◌, drop, not}
use Rattle.std.specs.List.{list_all}
use Rattle.cif_defs.specs.WordText.{is_no_digit}
use Rattle.cif_checks.proofs.raw_access.has_only_digits.Given as goal

abbrev pub invariant-loop-byte : goal.invariant-loop-byte
invariant-loop-byte l = list_all (λ b. not (is_no_digit b)) (drop l.byte-index l.text) ≡ list_all (λ b. not (is_no_digit b)) l.text
