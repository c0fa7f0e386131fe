use Rattle.std.proofs.Common.{sym, ◌∙◌}
use Rattle.cif_text.proofs.Digits.{number_none, number_some}
use Rattle.cif_text.proofs.numbers.read_number.Goals as goal

pub returns-then-not-is_decimal : goal.returns-then-not-is_decimal
returns-then-not-is_decimal c = number_none c.args.text.now (sym c.is_decimal.ensures ∙ c.if-not-is_decimal.true)

pub returns : goal.returns
returns c = c.decimal_value.ensures ∙ number_some c.args.text.now (sym c.is_decimal.ensures ∙ c.if-not-is_decimal.false)
