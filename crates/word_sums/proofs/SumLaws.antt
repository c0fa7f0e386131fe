-- The taint of sums, on numbers: it holds what the formula of a sum stands for.
use Rattle.std.specs.Prelude.{ℕ, ◌+◌, ◌%◌, ◌^◌, ◌<◌, ◌≡◌, Bool, true, false, ◌&&◌, ◌||◌, nat_lt, if◌then◌else◌, refl}
use Rattle.std.proofs.Common.{sym, ap, ◌∙◌}
use Rattle.cif_defs.specs.Meanings.{alu_operand, alu_sum_word}
use Rattle.cif_defs.specs.Words.{Word, bit, bit_value, digit, extend, number, word, word_of}
use Rattle.cif_defs.proofs.Numbers.{word-same}
use Rattle.cif_defs.proofs.SumExact.{alu_is_sum}
use Rattle.cif_defs.proofs.Sums.{sum_bit}
use Rattle.cif_defs.proofs.WordLaws.{bit-word, length-word}
use Rattle.cif_defs.proofs.WordNumbers.{extend-same, number-word_below}
use Rattle.cif_arith.proofs.Meanings.{word_of-alu_y}
use Rattle.rule_arith.proofs.SumRules.{xor_none}
use Rattle.rule_arith.proofs.SumValues.{bound_at, sum_rule}
use Rattle.rule_arith.proofs.Turns.{case_turns, cases_turn, joined_bit, second_turns}
use Rattle.word_sums.specs.declared.sums.Carry.{Carry}
use Rattle.word_sums.specs.declared.sums.Summand.{Summand}
use Rattle.word_sums.specs.BoundNumbers.{bounds_of, side_of}
use Rattle.word_sums.specs.SumNumbers.{case_number, cases_number, joined_number, no_carry, second_number, single_taint, sum_number, sum_taint_number, sums_between}
use Rattle.word_sums.proofs.HeldNumbers.{Holds, holds_number, holds_or, holds_same, holds_xor}
use Rattle.word_sums.proofs.BoundLaws.{below_holds, side_holds}

-- ---- cases

-- g holds the bits p in each case
abbrev pub HoldsCases : ℕ → (Bool → Bool → Bool → ℕ) → (ℕ → Bool → Bool → Bool → Bool) → Type 0
HoldsCases n g p = (upper a b : Bool) → Holds n (g upper a b) (λ i. p i upper a b)

pub joined_holds : {n t0 t1 v0 v1 : ℕ} {p0 p1 q0 q1 : ℕ → Bool} → Holds n t0 p0 → Holds n t1 p1 → Holds n v0 q0 → Holds n v1 q1 → Holds n (joined_number t0 t1 v0 v1) (λ i. joined_bit (p0 i) (p1 i) (q0 i) (q1 i))
joined_holds a b c d = holds_or (holds_or a b) (holds_xor c d)

case_holds : (n : ℕ) (g : Bool → Bool → Bool → ℕ) (p : ℕ → Bool → Bool → Bool → Bool) → HoldsCases n g p → (a b : Bool) → Holds n (case_number g a b) (λ i. case_turns (p i) a b)
case_holds n g p h a b = holds_xor (h false a b) (h true a b)

second_holds : (n : ℕ) (split : Bool) (g : Bool → Bool → Bool → ℕ) (p : ℕ → Bool → Bool → Bool → Bool) → HoldsCases n g p → (a : Bool) → Holds n (second_number split g a) (λ i. second_turns split (p i) a)
second_holds n true g p h a = joined_holds (case_holds n g p h a false) (case_holds n g p h a true) (h false a false) (h false a true)
second_holds n false g p h a = case_holds n g p h a false

pub cases_hold : (n : ℕ) (first second : Bool) (g : Bool → Bool → Bool → ℕ) (p : ℕ → Bool → Bool → Bool → Bool) → HoldsCases n g p → Holds n (cases_number first second g) (λ i. cases_turn first second (p i))
cases_hold n true second g p h = joined_holds (second_holds n second g p h false) (second_holds n second g p h true) (h false false false) (h false true false)
cases_hold n false second g p h = second_holds n second g p h false

-- ---- a sum with a carry in

whole : (n : ℕ) (p : ℕ → Bool) → alu_operand n false false (word n p) ≡ word n p
whole n p = word-same n _ _ (λ i h. sym (xor_none (bit (word n p) i)) ∙ bit-word n p i false h)

extended_whole : (n x : ℕ) (p : ℕ → Bool) → x < 2 ^ n → Holds n x p → x ≡ number (extend n false (word n p))
extended_whole n x p l h = holds_number n x p l h ∙ sym (ap number (extend-same n false (word n p) (length-word n p)))

pub sum_holds : (n x y r : ℕ) (c : Bool) (p q : ℕ → Bool) → x < 2 ^ n → y < 2 ^ n → Holds n x p → Holds n y q → r ≡ (x + y + bit_value c) % 2 ^ n → Holds n r (λ i. sum_bit c (word n p) (word n q) i)
sum_holds n x y r c p q l k h g e =
    let same : word_of n r ≡ alu_sum_word n false c false (word n p) (word n q) = word_of-alu_y n false c false (word n p) (word n q) x y r (extended_whole n x p l h) (extended_whole n y q k g) e in
    record {
      bits = λ i m. sym (bit-word n (digit r) i false m) ∙ ap (λ (w : Word). bit w i) same ∙ alu_is_sum n false c false (word n p) (word n q) i m
          ∙ ap (λ (w : Word). sum_bit c w (alu_operand n false false (word n q)) i) (whole n p) ∙ ap (λ (w : Word). sum_bit c (word n p) w i) (whole n q);
    }

-- ---- sums of bounds

-- a summand with bits p and taint q
pub record HoldsSummand (n : ℕ) (x : Summand) (p q : ℕ → Bool) : Type 0 where
  pub value : Holds n x.value p
  pub taint : Holds n x.taint q

pub sums_hold : (n : ℕ) (x y : Summand) (c : Carry) (pf pt pg pu : ℕ → Bool) → HoldsSummand n x pf pt → HoldsSummand n y pg pu
    → HoldsCases n (sum_number (sums_between n x y c)) (λ i upper p q. sum_bit (if upper then c.greatest else c.least) (bound_at n x.start pf pt upper p) (bound_at n y.start pg pu upper q) i)
sums_hold n x y c pf pt pg pu h k upper p q =
    sum_holds n (side_of n x.start upper p (bounds_of n x.value x.taint)) (side_of n y.start upper q (bounds_of n y.value y.taint)) (sum_number (sums_between n x y c) upper p q) (if upper then c.greatest else c.least) _ _
    (number-word_below n _) (number-word_below n _) (side_holds x.start upper p h.value h.taint) (side_holds y.start upper q k.value k.taint) refl

same_carry : (upper : Bool) → (if upper then false else false) ≡ false
same_carry true = refl
same_carry false = refl

pub single_holds : (n : ℕ) (x y : Summand) (pf pt pg pu : ℕ → Bool) → HoldsSummand n x pf pt → HoldsSummand n y pg pu
    → Holds n (single_taint n x y) (λ i. (nat_lt i x.start && pt i) || (nat_lt i y.start && pu i))
single_holds n x y pf pt pg pu h k = holds_or (below_holds x.start h.taint) (below_holds y.start k.taint)

pub sum_taint_holds : (n : ℕ) (x y : Summand) (pf pt pg pu : ℕ → Bool) → HoldsSummand n x pf pt → HoldsSummand n y pg pu → Holds n (sum_taint_number n x y) (sum_rule n x.start y.start pf pt pg pu)
sum_taint_holds n x y pf pt pg pu h k =
    holds_or (single_holds n x y pf pt pg pu h k)
    (cases_hold n (nat_lt x.start n) (nat_lt y.start n) (sum_number (sums_between n x y no_carry)) (λ i upper p q. sum_bit false (bound_at n x.start pf pt upper p) (bound_at n y.start pg pu upper q) i)
    (λ upper p q. holds_same (sums_hold n x y no_carry pf pt pg pu h k upper p q) (λ i l. ap (λ c. sum_bit c (bound_at n x.start pf pt upper p) (bound_at n y.start pg pu upper q) i) (same_carry upper))))
