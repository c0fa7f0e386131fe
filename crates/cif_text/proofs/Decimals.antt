-- A number that was written in decimal digits can be read again.
use Rattle.std.specs.Prelude.{ℕ, ◌+◌, ◌-◌, ◌*◌, ◌^◌, ◌<◌, ◌≡◌, ◌==◌, nat_lt, true, not, ◌||◌, List, [], ◌∷◌, length, get_or, fold, Some, None, refl, ◌⊎◌}
use Rattle.std.specs.List.{list_all}
use Rattle.std.specs.Fmt.{decimal}
use Rattle.std.proofs.Common.{arith, rules, ap, ◌∙◌, inl, inr, if◌then◌else◌}
use Rattle.std.proofs.lemmas.Bool.Decides.{nat_tests}
use Rattle.std.proofs.lemmas.Fmt.{decimal_nonempty, first_decimal, decimal_digit, digits_decimal, digits_value-decimal}
use Rattle.std.proofs.lemmas.Str.Parse.{IsNumeralModel, numerals_by_fold}
use Rattle.cif_defs.specs.Text.{is_visible, is_decimal_digit, is_decimal, decimal_value, number_read}
use Rattle.cif_text.proofs.BoolTests.{both, and_true}

own : IsNumeralModel (λ ds. list_all is_decimal_digit ds ≡ true) decimal_value
own = numerals_by_fold _ (search rules) (fold (λ n b. n * 10 + (b - 48))) (search rules)

zero_or_more : (k : ℕ) → (k ≡ 0) ⊎ (0 < k)
zero_or_more k = search arith

-- only 0 begins with 0
begins_well : (k : ℕ) → k < 2 ^ 64 → (length (decimal k) == 1 || not (get_or (decimal k) 0 0 == 48)) ≡ true
begins_well k h = elim (zero_or_more k) [
  | inl z ↦ ap (λ n. length (decimal n) == 1 || not (get_or (decimal n) 0 0 == 48)) z ∙ ap (λ ds. length ds == 1 || not (get_or ds 0 0 == 48)) (decimal_digit 0 (omega arith))
  | inr s ↦ (let f = first_decimal k s h in grind (arith, nat_tests))
]

decimal_is : (k : ℕ) → k < 2 ^ 64 → is_decimal (decimal k) ≡ true
decimal_is k h =
    let s = decimal_nonempty k h in
    let a : nat_lt 0 (length (decimal k)) ≡ true = grind (arith, nat_tests) in
    and_true _ _ (and_true _ _ a (digits_decimal own k h)) (begins_well k h)

pub number_read-decimal : (k : ℕ) → k < 2 ^ 64 → number_read (decimal k) ≡ Some k
unfolding number_read
number_read-decimal k h =
    let v = digits_value-decimal own k h in
    let small : nat_lt (decimal_value (decimal k)) (2 ^ 64) ≡ true = grind (arith, nat_tests) in
    ap (λ s. if s then Some (decimal_value (decimal k)) else None) (and_true _ _ (decimal_is k h) small) ∙ ap Some v

digit_visible : (b : ℕ) → is_decimal_digit b ≡ true → is_visible b ≡ true
digit_visible b h = grind (arith, nat_tests)

digits_visible : (ds : List ℕ) → list_all is_decimal_digit ds ≡ true → list_all is_visible ds ≡ true
digits_visible [] h = refl
digits_visible (b ∷ ds) h =
    let parts = both (is_decimal_digit b) (list_all is_decimal_digit ds) h in
    and_true _ _ (digit_visible b parts.0) (digits_visible ds parts.1)

pub decimal_visible : (k : ℕ) → k < 2 ^ 64 → list_all is_visible (decimal k) ≡ true
decimal_visible k h = digits_visible (decimal k) (digits_decimal own k h)
