-- The exact taint of $add, $sub and $neg, and of the sum of $alu.
use Rattle.std.specs.Prelude.{ℕ, zero, suc, ◌+◌, ◌*◌, ◌<◌, ◌≤◌, ◌≡◌, nat_lt, Bool, true, false, not, ◌&&◌, ◌||◌, ◌==◌, [], ◌∷◌, length, pos, neg_ℤ, ◌-ℤ◌, refl}
use Rattle.std.proofs.Common.{arith, sym, ap, ◌∙◌, inl, inr}
use Rattle.std.proofs.lemmas.Bool.Decides.{nat_tests}
use Rattle.std.proofs.lemmas.Int.{ints}
use Rattle.cif_defs.specs.Completions.{AllComplete, Completes, IsExact, of_one, of_two}
use Rattle.cif_defs.specs.Meanings.{add_word, alu_operand, neg_word, sub_word}
use Rattle.cif_defs.specs.Words.{Word, bit, bit_value, extend, extended_bit, flag_word, int_word_of, majority, number, operand, word, word_of, xor, zeros}
use Rattle.cif_defs.proofs.WordLaws.{bit-word, length-word, le_or_lt, past_word}
use Rattle.cif_defs.proofs.Exact.{cons_complete, nil_complete}
use Rattle.cif_defs.proofs.Numbers.{int_word_of-difference, number_zero, word-same, word-suc}
use Rattle.cif_defs.proofs.SumExact.{add_is_sum, operand_bit, sub_is_sum}
use Rattle.cif_defs.proofs.Sums.{bit-ripple, carry, self_completes, sum_bit, word_of-sum}
use Rattle.rule_arith.specs.Bounds.{is_upper, sign_start}
use Rattle.rule_arith.proofs.AddendSums.{IsSumOf, constant_addend, constant_carry, operand_addend, sum_spread}
use Rattle.rule_arith.proofs.Limits.{at_bound, at_bound_clear, bound_word}
use Rattle.rule_arith.proofs.Turns.{cases_turn, spread_exact}

-- ---- complements

pub not_xor : (x : Bool) → not x ≡ xor x true
not_xor true = refl
not_xor false = refl

pub xor_none : (x : Bool) → x ≡ xor x false
xor_none true = refl
xor_none false = refl

majority_not : (x y c : Bool) → majority (not x) (not y) (not c) ≡ not (majority x y c)
majority_not true true true = refl
majority_not true true false = refl
majority_not true false true = refl
majority_not true false false = refl
majority_not false true true = refl
majority_not false true false = refl
majority_not false false true = refl
majority_not false false false = refl

sum_not : (x y c : Bool) → xor (xor (not x) (not y)) (not c) ≡ not (xor (xor x y) c)
sum_not true true true = refl
sum_not true true false = refl
sum_not true false true = refl
sum_not true false false = refl
sum_not false true true = refl
sum_not false true false = refl
sum_not false false true = refl
sum_not false false false = refl

carry_not : (c : Bool) (x x' y y' : Word) (i : ℕ) → ((k : ℕ) → k < i → bit x' k ≡ not (bit x k)) → ((k : ℕ) → k < i → bit y' k ≡ not (bit y k)) → carry (not c) x' y' i ≡ not (carry c x y i)
carry_not c x x' y y' zero p q = refl
carry_not c x x' y y' (suc i) p q =
    let rest : carry (not c) x' y' i ≡ not (carry c x y i) = carry_not c x x' y y' i (λ k l. p k (omega arith)) (λ k l. q k (omega arith)) in
    ap (λ b. majority b (bit y' i) (carry (not c) x' y' i)) (p i (omega arith)) ∙ ap (λ b. majority (not (bit x i)) b (carry (not c) x' y' i)) (q i (omega arith))
    ∙ ap (majority (not (bit x i)) (not (bit y i))) rest ∙ majority_not (bit x i) (bit y i) (carry c x y i)

-- the sum of complements and a complemented carry is the complement of the sum
sum_complement : (c : Bool) (x x' y y' : Word) (i : ℕ) → ((k : ℕ) → k < suc i → bit x' k ≡ not (bit x k)) → ((k : ℕ) → k < suc i → bit y' k ≡ not (bit y k)) → sum_bit (not c) x' y' i ≡ not (sum_bit c x y i)
sum_complement c x x' y y' i p q =
    ap (λ b. xor (xor b (bit y' i)) (carry (not c) x' y' i)) (p i (omega arith)) ∙ ap (λ b. xor (xor (not (bit x i)) b) (carry (not c) x' y' i)) (q i (omega arith))
    ∙ ap (xor (xor (not (bit x i)) (not (bit y i)))) (carry_not c x x' y y' i (λ k l. p k (omega arith)) (λ k l. q k (omega arith)))
    ∙ sum_not (bit x i) (bit y i) (carry c x y i)

operand_not : (n : ℕ) (signed inv : Bool) (w : Word) (k : ℕ) → k < n → bit (alu_operand n signed (not inv) w) k ≡ not (bit (alu_operand n signed inv w) k)
operand_not n signed true w k l = operand_bit n signed false w k l ∙ by_bit (extended_bit signed k w) ∙ ap not (sym (operand_bit n signed true w k l))
  where
    by_bit : (b : Bool) → xor b false ≡ not (xor b true)
    by_bit true = refl
    by_bit false = refl
operand_not n signed false w k l = operand_bit n signed true w k l ∙ by_bit (extended_bit signed k w) ∙ ap not (sym (operand_bit n signed false w k l))
  where
    by_bit : (b : Bool) → xor b true ≡ not (xor b false)
    by_bit true = refl
    by_bit false = refl

-- ---- rows of two operands

pair_complete : (a ta u b tb w : Word) → Completes a ta u → Completes b tb w → AllComplete (a ∷ b ∷ []) (ta ∷ tb ∷ []) (u ∷ w ∷ [])
pair_complete a ta u b tb w c d = cons_complete a (b ∷ []) ta (tb ∷ []) u (w ∷ []) c (cons_complete b [] tb [] w [] d nil_complete)

row_sum : (i : ℕ) (row : Word → Word → Word) (a ta b tb : Word) (X Y : Word → Word) (c turned : Bool) → ((u w : Word) → bit (row u w) i ≡ xor (sum_bit c (X u) (Y w) i) turned)
    → IsSumOf i (of_two row i) (a ∷ b ∷ []) (ta ∷ tb ∷ []) a ta b tb [] [] X Y (λ u. c) turned
row_sum i row a ta b tb X Y c turned h = record {
  make = λ u w z. u ∷ w ∷ [];
  complete = λ u w z p q r. pair_complete a ta u b tb w p q;
  value = λ u w z. h u w;
  first = λ us. operand us 0;
  second = λ us. operand us 1;
  carried = λ us. [];
  first_completes = λ us d. d.each 0;
  second_completes = λ us d. d.each 1;
  carried_completes = λ us d. self_completes [] [];
  split = λ us d. h (operand us 0) (operand us 1);
}

-- taint at place i of the sum of two operands, of which the first is complemented where inv is 1
abbrev pub stands_single : ℕ → Bool → Word → Word → ℕ → Bool
stands_single n signed v t i = nat_lt i (sign_start n signed (length v)) && extended_bit signed i t

abbrev pub has_sides : ℕ → Bool → Word → Bool
has_sides n signed v = nat_lt (sign_start n signed (length v)) n

abbrev pub pair_rule : ℕ → Bool → Bool → Word → Word → Word → Word → ℕ → Bool
pair_rule n signed inv a ta b tb i =
    (stands_single n signed a ta i || stands_single n signed b tb i)
    || cases_turn (has_sides n signed a) (has_sides n signed b) (λ upper p q. sum_bit false (bound_word n signed inv a ta upper p) (bound_word n signed false b tb upper q) i)

pair_exact : (n : ℕ) (signed inv turned : Bool) (row : Word → Word → Word) (a ta b tb w : Word) → length ta ≡ length a → length tb ≡ length b → 1 ≤ length a → 1 ≤ length b
    → ((u w : Word) (i : ℕ) → i < n → bit (row u w) i ≡ xor (sum_bit false (alu_operand n signed inv u) (alu_operand n signed false w) i) turned)
    → w ≡ word n (pair_rule n signed inv a ta b tb) → IsExact n (of_two row) (a ∷ b ∷ []) (ta ∷ tb ∷ []) w
pair_exact n signed inv turned row a ta b tb w e f some_a some_b h q =
    spread_exact n (of_two row) (a ∷ b ∷ []) (ta ∷ tb ∷ []) turned (λ i. stands_single n signed a ta i || stands_single n signed b tb i) (has_sides n signed a) (has_sides n signed b)
    (λ i upper p q. sum_bit false (bound_word n signed inv a ta upper p) (bound_word n signed false b tb upper q) i) w
    (λ i l. sum_spread n i (of_two row i) (a ∷ b ∷ []) (ta ∷ tb ∷ []) a ta b tb [] [] (alu_operand n signed inv) (alu_operand n signed false) (λ u. false) turned _ _ _ _ _ _ _
    (operand_addend n i signed inv a ta e some_a l) (operand_addend n i signed false b tb f some_b l) (constant_carry [] [] false)
    (row_sum i row a ta b tb (alu_operand n signed inv) (alu_operand n signed false) false turned (λ u w. h u w i l)))
    q

pub add_exact : (n : ℕ) (signed : Bool) (a ta b tb w : Word) → length ta ≡ length a → length tb ≡ length b → 1 ≤ length a → 1 ≤ length b
    → w ≡ word n (pair_rule n signed false a ta b tb) → IsExact n (of_two (add_word n signed)) (a ∷ b ∷ []) (ta ∷ tb ∷ []) w
add_exact n signed a ta b tb w e f some_a some_b q =
    pair_exact n signed false false (add_word n signed) a ta b tb w e f some_a some_b (λ u v i l. add_is_sum n signed u v i l ∙ xor_none _) q

-- a difference is the complement of the sum with the first operand complemented
pub sub_exact : (n : ℕ) (signed : Bool) (a ta b tb w : Word) → length ta ≡ length a → length tb ≡ length b → 1 ≤ length a → 1 ≤ length b
    → w ≡ word n (pair_rule n signed true a ta b tb) → IsExact n (of_two (sub_word n signed)) (a ∷ b ∷ []) (ta ∷ tb ∷ []) w
sub_exact n signed a ta b tb w e f some_a some_b q =
    pair_exact n signed true true (sub_word n signed) a ta b tb w e f some_a some_b
    (λ u v i l. sub_is_sum n signed u v i l
    ∙ sum_complement false (alu_operand n signed true u) (alu_operand n signed false u) (alu_operand n signed false v) (alu_operand n signed true v) i
    (λ k m. operand_not n signed true u k (omega arith)) (λ k m. operand_not n signed false v k (omega arith))
    ∙ not_xor _) q

-- ---- $neg

-- the sum of two words of n bits and a carry, bit by bit
pub sum_bits : (n : ℕ) (c : Bool) (a b : Word) (i : ℕ) → length a ≡ n → length b ≡ n → i < n → bit (word_of n (number a + number b + bit_value c)) i ≡ sum_bit c a b i
sum_bits n c a b i e f h =
    let long : length b ≡ length a = f ∙ sym e in
    ap (λ k. bit (word_of k (number a + number b + bit_value c)) i) (sym e) ∙ ap (λ (w : Word). bit w i) (word_of-sum a b c long) ∙ bit-ripple c a b i long (omega arith)

none_of : (n : ℕ) → number (zeros n) ≡ 0
none_of n = number_zero (zeros n) (λ i. elim (le_or_lt i n) [
  | inl l ↦ bit-word n (λ k. false) i false l
  | inr l ↦ past_word n (λ k. false) i false l
])

rest_clear : (n : ℕ) (b : Bool) → word n (λ i. suc i == 0 && b) ≡ zeros n
rest_clear n b = word-same n _ _ (λ i h. let later : (suc i == 0) ≡ false = grind (arith, nat_tests) in ap (λ x. x && b) later)

pub number-flag : (n : ℕ) (b : Bool) → 1 ≤ n → number (flag_word n b) ≡ bit_value b
number-flag zero b h = absurd (omega arith)
number-flag (suc n) b h =
    let parts : number (flag_word (suc n) b) ≡ bit_value b + 2 * number (word n (λ i. suc i == 0 && b)) = ap number (word-suc n (λ i. i == 0 && b)) in
    let rest : number (word n (λ i. suc i == 0 && b)) ≡ 0 = ap number (rest_clear n b) ∙ none_of n in
    omega arith

complement_word : (n : ℕ) (signed : Bool) (w : Word) → word n (λ i. not (extended_bit signed i w)) ≡ alu_operand n signed true w
complement_word n signed w = word-same n _ _ (λ i h. not_xor (extended_bit signed i w))

neg_is_sum : (n : ℕ) (signed : Bool) (u : Word) (i : ℕ) → i < n → bit (neg_word n signed u) i ≡ sum_bit false (alu_operand n signed true u) (flag_word n true) i
neg_is_sum n signed u i h =
    let none : number (zeros n) ≡ 0 = none_of n in
    let minus : neg_ℤ (pos (number (extend n signed u))) ≡ pos (number (zeros n)) -ℤ pos (number (extend n signed u)) = omega (arith, ints) in
    let one : number (flag_word n true) ≡ 1 = number-flag n true (omega arith) in
    let same : number (word n (λ i. not (extended_bit signed i u))) ≡ number (alu_operand n signed true u) = ap number (complement_word n signed u) in
    let sum : number (zeros n) + number (word n (λ i. not (extended_bit signed i u))) + 1 ≡ number (alu_operand n signed true u) + number (flag_word n true) + 0 = omega arith in
    ap (λ z. bit (int_word_of n z) i) minus ∙ ap (λ (w : Word). bit w i) (int_word_of-difference n (λ k. false) (λ k. extended_bit signed k u))
    ∙ ap (λ x. bit (word_of n x) i) sum ∙ sum_bits n false (alu_operand n signed true u) (flag_word n true) i (length-word n _) (length-word n _) h

own_sum : (i : ℕ) (row : Word → Word) (a ta : Word) (X : Word → Word) (w : Word) → ((u : Word) → bit (row u) i ≡ sum_bit false (X u) w i)
    → IsSumOf i (of_one row i) (a ∷ []) (ta ∷ []) a ta [] [] [] [] X (λ u. w) (λ u. false) false
own_sum i row a ta X w h = record {
  make = λ u x z. u ∷ [];
  complete = λ u x z p q r. cons_complete a [] ta [] u [] p nil_complete;
  value = λ u x z. h u ∙ xor_none _;
  first = λ us. operand us 0;
  second = λ us. [];
  carried = λ us. [];
  first_completes = λ us d. d.each 0;
  second_completes = λ us d. self_completes [] [];
  carried_completes = λ us d. self_completes [] [];
  split = λ us d. h (operand us 0) ∙ xor_none _;
}

-- the bounds of the number 1, which is untainted
abbrev pub unit_bound : ℕ → Bool → Bool → Word
unit_bound n upper side = word n (λ i. at_bound (is_upper n upper side i) (i == 0 && true) false)

unit_is : (n : ℕ) (upper side : Bool) → unit_bound n upper side ≡ flag_word n true
unit_is n upper side = word-same n _ _ (λ i h. at_bound_clear (is_upper n upper side i) (i == 0 && true) false refl)

and_false : (b : Bool) → (b && false) ≡ false
and_false true = refl
and_false false = refl

abbrev pub own_rule : ℕ → Bool → Word → Word → ℕ → Bool
own_rule n signed a ta i =
    (stands_single n signed a ta i || (nat_lt i n && false))
    || cases_turn (has_sides n signed a) (nat_lt n n) (λ upper p q. sum_bit false (bound_word n signed true a ta upper p) (unit_bound n upper q) i)

pub neg_exact : (n : ℕ) (signed : Bool) (a ta w : Word) → length ta ≡ length a → 1 ≤ length a → w ≡ word n (own_rule n signed a ta) → IsExact n (of_one (neg_word n signed)) (a ∷ []) (ta ∷ []) w
neg_exact n signed a ta w e some q =
    spread_exact n (of_one (neg_word n signed)) (a ∷ []) (ta ∷ []) false (λ i. stands_single n signed a ta i || (nat_lt i n && false)) (has_sides n signed a) (nat_lt n n)
    (λ i upper p q. sum_bit false (bound_word n signed true a ta upper p) (unit_bound n upper q) i) w
    (λ i l. sum_spread n i (of_one (neg_word n signed) i) (a ∷ []) (ta ∷ []) a ta [] [] [] [] (alu_operand n signed true) (λ u. flag_word n true) (λ u. false) false _ _ _ _ _ _ _
    (operand_addend n i signed true a ta e some l) (constant_addend n i [] [] (flag_word n true) (nat_lt i n && false) (nat_lt n n) (unit_bound n) (and_false (nat_lt i n)) (unit_is n)) (constant_carry [] [] false)
    (own_sum i (neg_word n signed) a ta (alu_operand n signed true) (flag_word n true) (λ u. neg_is_sum n signed u i l)))
    q
