use Rattle.std.proofs.Common.{◌≡◌, ◌<◌, ◌^◌, fold, drop}
use Rattle.cif_defs.specs.Text.{decimal_value as decimal_number}
use Rattle.cif_text.specs.Numbers.{number_with}
use Rattle.cif_text.proofs.numbers.decimal_value.Given as goal

abbrev pub invariant-loop-digit : goal.invariant-loop-digit
invariant-loop-digit l = record {
  so_far : fold number_with l.value (drop l.digit-index l.digits) ≡ decimal_number l.digits;
  fits : l.value < 2 ^ 64;
}
