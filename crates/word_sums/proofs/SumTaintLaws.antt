-- The taint of $add, $sub and $neg, on numbers: what the formula of each stands for.
use Rattle.std.specs.Prelude.{ℕ, zero, suc, ◌%◌, ◌^◌, ◌≤◌, ◌≡◌, ◌==◌, ◌&&◌, Bool, true, false, List, [], ◌∷◌, refl}
use Rattle.std.proofs.Common.{arith, sym, ap, ◌∙◌}
use Rattle.std.proofs.Math.Nat.{zero-div}
use Rattle.std.proofs.lemmas.Bool.Decides.{nat_tests}
use Rattle.cif_defs.specs.Meanings.{not_word}
use Rattle.cif_defs.specs.Words.{Word, digit, extend, extended_bit, word, word_of, xor, zeros}
use Rattle.cif_defs.proofs.Numbers.{digit-suc}
use Rattle.cif_defs.proofs.WordLaws.{length-word}
use Rattle.cif_term.specs.declared.ops.Op1.TheVariants.{Not}
use Rattle.cif_term.specs.Extended.{extended}
use Rattle.cif_term.specs.Formulas.{Const, Formula, One, value_of}
use Rattle.rule_arith.specs.Addends.{operand_taint, operand_word}
use Rattle.rule_arith.specs.Bounds.{sign_start}
use Rattle.rule_arith.specs.SumFormulas.{add_taint, neg_taint, sub_taint, sum_formula}
use Rattle.rule_arith.proofs.OrderTaints.{value-flag}
use Rattle.rule_arith.proofs.SumTaints.{gives_complement, gives_taint, gives_value}
use Rattle.rule_arith.proofs.SumRules.{not_xor}
use Rattle.rule_arith.proofs.SumValues.{Gives, sum_rule, value-sum_formula}
use Rattle.word_sums.specs.declared.shape.Pair.{Pair}
use Rattle.word_sums.specs.declared.shape.Shape.{Shape}
use Rattle.word_sums.specs.declared.sums.Summand.{Summand}
use Rattle.word_sums.specs.Operands.{pair_words, taint_of, taint_of_one}
use Rattle.word_sums.specs.SumNumbers.{sum_taint_number}
use Rattle.word_sums.proofs.HeldNumbers.{holds_not, holds_same, holds_word, word_holds}
use Rattle.word_sums.proofs.SumLaws.{HoldsSummand, sum_taint_holds}

-- an operand of m bits as a summand of n bits that starts its sign at a place
pub record IsSummand (n : ℕ) (signed : Bool) (m v t : ℕ) (x : Summand) : Type 0 where
  pub value : word_of n x.value ≡ extend n signed (word_of m v)
  pub taint : word_of n x.taint ≡ extend n signed (word_of m t)
  pub start : x.start ≡ sign_start n signed m

pub plain_summand : {n m v t : ℕ} {signed : Bool} {x : Summand} → IsSummand n signed m v t x
    → HoldsSummand n x (λ i. extended_bit signed i (word_of m v)) (λ i. extended_bit signed i (word_of m t))
plain_summand {n = n} {x = x} h = record { value = word_holds n x.value _ h.value; taint = word_holds n x.taint _ h.taint }

-- its complement
pub record IsComplement (n : ℕ) (x y : Summand) : Type 0 where
  pub value : word_of n y.value ≡ not_word n false (word_of n x.value)
  pub taint : y.taint ≡ x.taint
  pub start : y.start ≡ x.start

pub complement_summand : {n m v t : ℕ} {signed : Bool} {x y : Summand} → IsSummand n signed m v t x → IsComplement n x y
    → HoldsSummand n y (λ i. xor (extended_bit signed i (word_of m v)) true) (λ i. extended_bit signed i (word_of m t))
complement_summand {n = n} {x = x} {y = y} h k = record {
  value = holds_same (holds_not k.value (word_holds n x.value _ h.value)) (λ i l. not_xor _);
  taint = word_holds n y.taint _ (ap (word_of n) k.taint ∙ h.taint);
}

-- ---- the sum of two summands as the value of a formula

sum_word_is : (n j k r : ℕ) (x y : Summand) (f t g u : Formula) (pf pt pg pu : ℕ → Bool) (vs ts : List Word)
    → HoldsSummand n x pf pt → HoldsSummand n y pg pu → x.start ≡ j → y.start ≡ k → Gives n vs ts f pf → Gives n vs ts t pt → Gives n vs ts g pg → Gives n vs ts u pu
    → r ≡ sum_taint_number n x y → word_of n r ≡ value_of (sum_formula n j k f t g u) vs ts []
sum_word_is n j k r x y f t g u pf pt pg pu vs ts h i starts ends a b c d e =
    ap (word_of n) e ∙ holds_word n (sum_taint_number n x y) _ (sum_taint_holds n x y pf pt pg pu h i)
    ∙ ap (λ s. word n (sum_rule n s y.start pf pt pg pu)) starts ∙ ap (λ s. word n (sum_rule n j s pf pt pg pu)) ends
    ∙ sym (value-sum_formula n j k f t g u pf pt pg pu vs ts [] a b c d)

pub add_taint_is : (s : Shape) (v t : Pair) (x y : Summand) (r : ℕ) → 1 ≤ s.a → 1 ≤ s.b → IsSummand s.y s.signed s.a v.a t.a x → IsSummand s.y s.signed s.b v.b t.b y
    → r ≡ sum_taint_number s.y x y → word_of s.y r ≡ taint_of add_taint s v t
unfolding taint_of
add_taint_is s v t x y r some_a some_b h k e =
    let vs : List Word = pair_words s v in
    let ts : List Word = pair_words s t in
    sum_word_is s.y _ _ r x y (operand_word s.y s.signed s.a 0) (operand_taint s.y s.signed s.a 0) (operand_word s.y s.signed s.b 1) (operand_taint s.y s.signed s.b 1) _ _ _ _ vs ts
    (plain_summand h) (plain_summand k) h.start k.start
    (gives_value s.y s.a s.signed 0 vs ts (length-word s.a _) some_a) (gives_taint s.y s.a s.signed 0 vs ts (length-word s.a _) some_a)
    (gives_value s.y s.b s.signed 1 vs ts (length-word s.b _) some_b) (gives_taint s.y s.b s.signed 1 vs ts (length-word s.b _) some_b) e

pub sub_taint_is : (s : Shape) (v t : Pair) (x z y : Summand) (r : ℕ) → 1 ≤ s.a → 1 ≤ s.b → IsSummand s.y s.signed s.a v.a t.a x → IsComplement s.y x z → IsSummand s.y s.signed s.b v.b t.b y
    → r ≡ sum_taint_number s.y z y → word_of s.y r ≡ taint_of sub_taint s v t
unfolding taint_of
sub_taint_is s v t x z y r some_a some_b h i k e =
    let vs : List Word = pair_words s v in
    let ts : List Word = pair_words s t in
    sum_word_is s.y _ _ r z y (One Not (operand_word s.y s.signed s.a 0)) (operand_taint s.y s.signed s.a 0) (operand_word s.y s.signed s.b 1) (operand_taint s.y s.signed s.b 1) _ _ _ _ vs ts
    (complement_summand h i) (plain_summand k) (i.start ∙ h.start) k.start
    (gives_complement s.y s.a s.signed 0 vs ts (length-word s.a _) some_a) (gives_taint s.y s.a s.signed 0 vs ts (length-word s.a _) some_a)
    (gives_value s.y s.b s.signed 1 vs ts (length-word s.b _) some_b) (gives_taint s.y s.b s.signed 1 vs ts (length-word s.b _) some_b) e

-- ---- the unit of $neg

no_digit : (i : ℕ) → digit 0 i ≡ false
no_digit i = ap (λ k. k % 2 == 1) (zero-div (2 ^ i))

unit_digit : (i : ℕ) → digit 1 i ≡ (i == 0 && true)
unit_digit zero = refl
unit_digit (suc i) = (let t : (suc i == 0) ≡ false = grind (arith, nat_tests) in digit-suc 1 i ∙ no_digit i ∙ sym (ap (λ x. x && true) t))

unit_gives : (n : ℕ) (vs ts : List Word) → Gives n vs ts (extended n false 1 (Const (true ∷ []))) (λ i. i == 0 && true)
unit_gives n vs ts named = value-flag n true (Const (true ∷ [])) vs ts named refl

unit_holds : (n k : ℕ) → HoldsSummand n (record { value = 1; taint = 0; start = k }) (λ i. i == 0 && true) (λ i. false)
unit_holds n k = record { value = record { bits = λ i l. unit_digit i }; taint = record { bits = λ i l. no_digit i } }

pub neg_taint_is : (s : Shape) (v t : ℕ) (x z : Summand) (r : ℕ) → 1 ≤ s.a → IsSummand s.y s.signed s.a v t x → IsComplement s.y x z
    → r ≡ sum_taint_number s.y z (record { value = 1; taint = 0; start = s.y }) → word_of s.y r ≡ taint_of_one neg_taint s v t
unfolding taint_of_one
neg_taint_is s v t x z r some h i e =
    let vs : List Word = word_of s.a v ∷ [] in
    let ts : List Word = word_of s.a t ∷ [] in
    sum_word_is s.y _ s.y r z (record { value = 1; taint = 0; start = s.y }) (One Not (operand_word s.y s.signed s.a 0)) (operand_taint s.y s.signed s.a 0) (extended s.y false 1 (Const (true ∷ []))) (Const (zeros s.y)) _ _ _ _ vs ts
    (complement_summand h i) (unit_holds s.y s.y) (i.start ∙ h.start) refl
    (gives_complement s.y s.a s.signed 0 vs ts (length-word s.a _) some) (gives_taint s.y s.a s.signed 0 vs ts (length-word s.a _) some)
    (unit_gives s.y vs ts) (λ named. refl) e
