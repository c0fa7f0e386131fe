use Rattle.std.specs.Prelude.{◌≡◌, ◌^◌, ◌-◌, ◌≤◌, ◌%◌, ◌==◌, true, false}
use Rattle.std.proofs.Common.{arith, sym, ap, ◌∙◌, inl, inr}
use Rattle.std.proofs.Math.Nat.{zero-div}
use Rattle.std.proofs.Math.Pow.{pow_mono}
use Rattle.cif_defs.specs.Words.{digit}
use Rattle.cif_defs.proofs.WordLaws.{le_or_lt}
use Rattle.word_numbers.proofs.FlagLaws.{top-held}
use Rattle.word_choices.proofs.shifts.magnitude.Goals as goal

pub overflow_add-result : goal.overflow_add-result
overflow_add-result c =
    let mask : c.mask.result ≡ 2 ^ c.args.width - 1 = c.mask.ensures.value in
    let most : 2 ^ c.args.width ≤ 2 ^ 128 = pow_mono c.requires.limit in
    elim (le_or_lt 0 c.args.b) [
      | inl some ↦ omega arith
      | inr none ↦ absurd (
          let zero : 0 ≡ c.args.b = omega arith in
          let clear : digit 0 (c.args.width - 1) ≡ false = ap (λ k. k % 2 == 1) (zero-div (2 ^ (c.args.width - 1))) in
          let set : digit 0 (c.args.width - 1) ≡ true = ap (λ k. digit k (c.args.width - 1)) zero ∙ top-held c.args.width c.args.b c.requires.some ∙ c.requires.negative in
          let same : false ≡ true = sym clear ∙ set in cc)
    ]
