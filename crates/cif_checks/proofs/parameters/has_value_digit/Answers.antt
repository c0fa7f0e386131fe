use Rattle.std.proofs.Common.{◌<◌, arith, sym, ◌∙◌}
use Rattle.cif_defs.specs.Words.{bit}
use Rattle.cif_defs.specs.RawModule.{digits_read}
use Rattle.cif_checks.proofs.MaskLaws.{digit_found, digit_more, same_bits, other_bits, word_read, last_wanted, last_unwanted}
use Rattle.cif_checks.proofs.parameters.has_value_digit.Goals as goal

pub returns-then-value_digit-wanted : goal.returns-then-value_digit-wanted
returns-then-value_digit-wanted c =
    let within : c.loop-index.index < c.args.count = omega (arith, c.min-index-end.ensures) in
    sym (digit_found c.args.wanted (λ i. bit (digits_read c.args.value.now) i) c.args.count c.loop-index.index within (sym c.value_digit.ensures ∙ same_bits _ _ c.if-value_digit-wanted.true))

pub loop-index-preserved : goal.loop-index-preserved
loop-index-preserved c =
    digit_more c.args.wanted (λ i. bit (digits_read c.args.value.now) i) c.loop-index.index c.loop-index.invariant (λ e. other_bits _ _ c.if-value_digit-wanted.false (c.value_digit.ensures ∙ e))

pub returns-then-not-wanted : goal.returns-then-not-wanted
returns-then-not-wanted c =
    last_wanted _ _ _ c.if-not-wanted.true (word_read c.args.wanted (digits_read c.args.value.now) c.args.count _ _ _ c.digit_count-given.ensures c.min-index-end.ensures c.loop-index.auto.index-end c.loop-index-test.false c.loop-index.invariant)

pub returns-else-not-wanted : goal.returns-else-not-wanted
returns-else-not-wanted c =
    last_unwanted _ _ _ c.if-not-wanted.false (word_read c.args.wanted (digits_read c.args.value.now) c.args.count _ _ _ c.digit_count-given.ensures c.min-index-end.ensures c.loop-index.auto.index-end c.loop-index-test.false c.loop-index.invariant)
