use Rattle.std.specs.Prelude.{◌≡◌, ◌%◌, ◌^◌, ◌==◌}
use Rattle.std.proofs.Common.{arith, ap, ◌∙◌}
use Rattle.std.proofs.Math.Nat.{zero-div}
use Rattle.cif_defs.specs.Words.{digit}
use Rattle.word_numbers.proofs.Digits.{bit-held}
use Rattle.word_choices.proofs.ChoiceValues.{pmux_none}
use Rattle.word_choices.proofs.choices.pmux_value.Goals as goal

pub returns-then-values-eq0-clause-word : goal.returns-then-values-eq0-clause-word
returns-then-values-eq0-clause-word c =
    let zero : c.args.values.c ≡ 0 = omega (arith, c.if-values-eq0.true) in
    pmux_none c.args.chain.width c.args.values.a _ _ (λ j. bit-held c.args.chain.selects c.args.values.c j c.requires.s_fits ∙ ap (λ k. digit k j) zero ∙ ap (λ k. k % 2 == 1) (zero-div (2 ^ j)))
