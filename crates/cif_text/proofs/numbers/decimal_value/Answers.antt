use Rattle.std.proofs.Common.{sym, ap, ◌∙◌, ◌+◌, drop, fold, get_or}
use Rattle.cif_text.specs.Numbers.{number_with}
use Rattle.cif_text.proofs.Digits.{too_large_on, digits_read, fits_next, digit_turn}
use Rattle.cif_text.proofs.numbers.decimal_value.Goals as goal

pub returns-in_err-value : goal.returns-in_err-value
returns-in_err-value c =
    let e = too_large_on c.loop-digit.value c.loop-digit.digit-index c.args.digits.now c.loop-digit-test.true c.loop-digit.invariant.so_far (sym c.in_err-value.was ∙ c.with_digit.ensures) in
    cc

pub loop-digit-preserved : goal.loop-digit-preserved
loop-digit-preserved c =
    let next = fits_next (number_with c.loop-digit.value (get_or c.args.digits.now c.loop-digit.digit-index 0)) c.in_ok-value.value (sym c.in_ok-value.was ∙ c.with_digit.ensures) in
    record {
      so_far = ap (λ n. fold number_with n (drop (c.loop-digit.digit-index + 1) c.args.digits.now)) next.0
          ∙ sym (digit_turn c.loop-digit.value c.loop-digit.digit-index c.args.digits.now c.loop-digit-test.true)
          ∙ c.loop-digit.invariant.so_far;
      fits = next.1;
    }

pub returns : goal.returns
returns c = digits_read c.loop-digit.value c.loop-digit.digit-index c.args.digits.now c.loop-digit-test.false c.loop-digit.invariant.fits c.loop-digit.invariant.so_far
