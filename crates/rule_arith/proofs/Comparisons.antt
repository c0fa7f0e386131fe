-- The exact taint of $lt, $le, $ge and $gt.
use Rattle.std.specs.Prelude.{ℕ, ◌≤◌, ◌≡◌, Bool, true, false, not, List, [], ◌∷◌, length, ℤ, ◌≤ℤ◌, int_lt, refl}
use Rattle.std.proofs.Common.{arith, sym, ap, ◌∙◌}
use Rattle.std.proofs.lemmas.Int.{ints}
use Rattle.cif_defs.specs.Completions.{AllComplete, Completes, IsExact, of_two}
use Rattle.cif_defs.specs.Meanings.{compared, ge_word, gt_word, le_word, lt_word}
use Rattle.cif_defs.specs.Words.{Word, flag_word, int_number, operand, xor}
use Rattle.cif_defs.proofs.Exact.{true_by}
use Rattle.cif_defs.proofs.Numbers.{Le}
use Rattle.cif_defs.proofs.WordNumbers.{compared-numbers, compared_le}
use Rattle.rule_arith.specs.Bounds.{order_start}
use Rattle.rule_arith.proofs.Limits.{limit_completes}
use Rattle.rule_arith.proofs.OrderLimits.{greatest_number, greatest_word, least_number, least_word}
use Rattle.rule_arith.proofs.TwoWordFunctions.{Decides, IsOfTwo, flag_exact, of_both, of_exchanged}
use Rattle.rule_arith.proofs.SumRules.{not_xor, xor_none}
use Rattle.rule_arith.proofs.Turns.{xor_off, xor_on}

-- ---- less than, of numbers that lie between others

less_grows : (x x' y y' : ℤ) → x' ≤ℤ x → y ≤ℤ y' → Le (int_lt x y) (int_lt x' y')
less_grows x x' y y' h g = λ e. grind (arith, ints)

pub less_between : (signed : Bool) (u u' w w' : Word) → int_number signed u' ≤ℤ int_number signed u → int_number signed w ≤ℤ int_number signed w' → Le (compared int_lt signed u w) (compared int_lt signed u' w')
less_between signed u u' w w' h g = λ e.
    compared-numbers int_lt signed u' w' ∙ less_grows (int_number signed u) (int_number signed u') (int_number signed w) (int_number signed w') h g (sym (compared-numbers int_lt signed u w) ∙ e)

-- the rule: a can be less than b, and can be not less
abbrev pub less_rule : ℕ → Bool → Word → Word → Word → Word → Bool
less_rule m signed a ta b tb =
    xor (compared int_lt signed (least_word m signed a ta) (greatest_word m signed b tb)) (compared int_lt signed (greatest_word m signed a ta) (least_word m signed b tb))

squeezed : (low x high : Bool) → Le low x → Le x high → high ≡ low → x ≡ low
squeezed true true high p q e = refl
squeezed true false high p q e = p refl
squeezed false true high p q e = sym (q refl) ∙ e
squeezed false false high p q e = refl

pub less_decides : (m : ℕ) (signed : Bool) (f : List Word → Bool) (vs ts : List Word) (a ta b tb : Word) → length ta ≡ length a → length tb ≡ length b → 1 ≤ length a → 1 ≤ length b → length a ≤ m → length b ≤ m
    → IsOfTwo f vs ts a ta b tb (compared int_lt signed) → Decides f vs ts (less_rule m signed a ta b tb)
less_decides m signed f vs ts a ta b tb e g some_a some_b few_a few_b s =
    let a0 : Word = least_word m signed a ta in
    let a1 : Word = greatest_word m signed a ta in
    let b0 : Word = least_word m signed b tb in
    let b1 : Word = greatest_word m signed b tb in
    let high : Bool = compared int_lt signed a0 b1 in
    let low : Bool = compared int_lt signed a1 b0 in
    record {
      only = λ h. record {
        first = s.make a0 b1;
        second = s.make a1 b0;
        first_completes = s.complete a0 b1 (limit_completes false true (order_start m signed (length a)) a ta e) (limit_completes true false (order_start m signed (length b)) b tb g);
        second_completes = s.complete a1 b0 (limit_completes true false (order_start m signed (length a)) a ta e) (limit_completes false true (order_start m signed (length b)) b tb g);
        differ = λ q. xor_on high low h (sym (s.value a0 b1) ∙ q ∙ s.value a1 b0);
      };
      all = λ d. true_by (xor high low) (λ off. d.differ (value_at d.first d.first_completes (xor_off high low off) ∙ sym (value_at d.second d.second_completes (xor_off high low off))));
    }
  where
    value_at : (us : List Word) → AllComplete vs ts us
        → compared int_lt signed (least_word m signed a ta) (greatest_word m signed b tb) ≡ compared int_lt signed (greatest_word m signed a ta) (least_word m signed b tb)
        → f us ≡ compared int_lt signed (greatest_word m signed a ta) (least_word m signed b tb)
    value_at us c same =
        let u : Word = s.first us in
        let w : Word = s.second us in
        let cu : Completes a ta u = s.first_completes us c in
        let cw : Completes b tb w = s.second_completes us c in
        s.split us ∙ squeezed (compared int_lt signed (greatest_word m signed a ta) (least_word m signed b tb)) (compared int_lt signed u w) (compared int_lt signed (least_word m signed a ta) (greatest_word m signed b tb))
        (less_between signed (greatest_word m signed a ta) u (least_word m signed b tb) w (greatest_number m signed a ta u e some_a few_a cu) (least_number m signed b tb w g some_b few_b cw))
        (less_between signed u (least_word m signed a ta) w (greatest_word m signed b tb) (least_number m signed a ta u e some_a few_a cu) (greatest_number m signed b tb w g some_b few_b cw)) same

-- ---- the four kinds

not_twice : (b : Bool) → not (not b) ≡ xor b false
not_twice true = refl
not_twice false = refl

pub lt_exact : (n m : ℕ) (signed : Bool) (a ta b tb w : Word) → length ta ≡ length a → length tb ≡ length b → 1 ≤ length a → 1 ≤ length b → length a ≤ m → length b ≤ m
    → w ≡ flag_word n (less_rule m signed a ta b tb) → IsExact n (of_two (lt_word n signed)) (a ∷ b ∷ []) (ta ∷ tb ∷ []) w
lt_exact n m signed a ta b tb w e f some_a some_b few_a few_b q =
    flag_exact n (λ us. compared int_lt signed (operand us 0) (operand us 1)) false (λ us. lt_word n signed (operand us 0) (operand us 1)) _ _ (less_rule m signed a ta b tb) w
    (λ us. ap (flag_word n) (xor_none _)) (less_decides m signed _ _ _ a ta b tb e f some_a some_b few_a few_b (of_both a ta b tb (compared int_lt signed))) q

pub ge_exact : (n m : ℕ) (signed : Bool) (a ta b tb w : Word) → length ta ≡ length a → length tb ≡ length b → 1 ≤ length a → 1 ≤ length b → length a ≤ m → length b ≤ m
    → w ≡ flag_word n (less_rule m signed a ta b tb) → IsExact n (of_two (ge_word n signed)) (a ∷ b ∷ []) (ta ∷ tb ∷ []) w
ge_exact n m signed a ta b tb w e f some_a some_b few_a few_b q =
    flag_exact n (λ us. compared int_lt signed (operand us 0) (operand us 1)) true (λ us. ge_word n signed (operand us 0) (operand us 1)) _ _ (less_rule m signed a ta b tb) w
    (λ us. ap (flag_word n) (not_xor _)) (less_decides m signed _ _ _ a ta b tb e f some_a some_b few_a few_b (of_both a ta b tb (compared int_lt signed))) q

pub gt_exact : (n m : ℕ) (signed : Bool) (a ta b tb w : Word) → length ta ≡ length a → length tb ≡ length b → 1 ≤ length a → 1 ≤ length b → length a ≤ m → length b ≤ m
    → w ≡ flag_word n (less_rule m signed b tb a ta) → IsExact n (of_two (gt_word n signed)) (a ∷ b ∷ []) (ta ∷ tb ∷ []) w
gt_exact n m signed a ta b tb w e f some_a some_b few_a few_b q =
    flag_exact n (λ us. compared int_lt signed (operand us 1) (operand us 0)) false (λ us. gt_word n signed (operand us 0) (operand us 1)) _ _ (less_rule m signed b tb a ta) w
    (λ us. ap (flag_word n) (ap not (compared_le signed (operand us 0) (operand us 1)) ∙ not_twice _)) (less_decides m signed _ _ _ b tb a ta f e some_b some_a few_b few_a (of_exchanged a ta b tb (compared int_lt signed))) q

pub le_exact : (n m : ℕ) (signed : Bool) (a ta b tb w : Word) → length ta ≡ length a → length tb ≡ length b → 1 ≤ length a → 1 ≤ length b → length a ≤ m → length b ≤ m
    → w ≡ flag_word n (less_rule m signed b tb a ta) → IsExact n (of_two (le_word n signed)) (a ∷ b ∷ []) (ta ∷ tb ∷ []) w
le_exact n m signed a ta b tb w e f some_a some_b few_a few_b q =
    flag_exact n (λ us. compared int_lt signed (operand us 1) (operand us 0)) true (λ us. le_word n signed (operand us 0) (operand us 1)) _ _ (less_rule m signed b tb a ta) w
    (λ us. ap (flag_word n) (compared_le signed (operand us 0) (operand us 1) ∙ not_xor _)) (less_decides m signed _ _ _ b tb a ta f e some_b some_a few_b few_a (of_exchanged a ta b tb (compared int_lt signed))) q
