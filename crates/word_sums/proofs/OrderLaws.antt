-- The taint of comparisons and of equality, on numbers: what the formula of each stands for.
use Rattle.std.specs.Prelude.{ℕ, ◌^◌, ◌<◌, ◌≤◌, ◌≡◌, ◌==◌, max, nat_lt, Bool, true, false, not, ◌&&◌, ◌||◌, bit_and, bit_or, List, [], ◌∷◌, ◌++◌, length, refl}
use Rattle.std.proofs.Common.{arith, sym, ap, ◌∙◌}
use Rattle.std.proofs.Math.Nat.{mod-eq_of_lt}
use Rattle.cif_defs.specs.Meanings.{lt_word, not_word}
use Rattle.cif_defs.specs.Words.{Word, bit, digit, extend, extended_bit, flag_word, has_one, number, operand, word, word_of, xor}
use Rattle.cif_defs.proofs.WordLaws.{length-word}
use Rattle.cif_defs.proofs.WordNumbers.{extend-same, number-word_below, number-word_of}
use Rattle.cif_arith.proofs.Meanings.{compared-less}
use Rattle.cif_term.specs.declared.ops.Op1.TheVariants.{Not, ReduceOr}
use Rattle.cif_term.specs.declared.ops.Op2.TheVariants.{And, Or}
use Rattle.cif_term.specs.Extended.{extended}
use Rattle.cif_term.specs.Formulas.{Bound, Formula, One, Taint, Two, value_of}
use Rattle.cif_term.proofs.Values.{value-and, value-not, value-or, value-xor}
use Rattle.rule_arith.specs.Addends.{operand_taint, operand_word}
use Rattle.rule_arith.specs.Bounds.{bounds, greatest_of, half_of, is_upper, least_of, order_start, sign_start}
use Rattle.rule_arith.specs.EqualFormulas.{either_case, equal_bit, equal_taint, meets, meets_at}
use Rattle.rule_arith.specs.OrderFormulas.{greater_taint, less_bit, less_op, less_taint}
use Rattle.rule_arith.proofs.BoundValues.{value-bound, value-bounds}
use Rattle.rule_arith.proofs.Limits.{at_bound}
use Rattle.rule_arith.proofs.OrderTaints.{value-flag}
use Rattle.rule_arith.proofs.SumTaints.{gives_taint, gives_value}
use Rattle.word_sums.specs.declared.shape.Pair.{Pair}
use Rattle.word_sums.specs.declared.shape.Shape.{Shape}
use Rattle.word_sums.specs.declared.sums.Summand.{Summand}
use Rattle.word_sums.specs.Operands.{pair_words, taint_of}
use Rattle.word_sums.specs.OrderNumbers.{bound_number, can_meet, clash_word, less_number, meets_anywhere, order_differs, second_meets, some_case}
use Rattle.word_sums.proofs.HeldNumbers.{and_fits, holds_and, holds_not, holds_or, holds_word, own_bits, word_holds}
use Rattle.word_sums.proofs.BoundLaws.{side_holds}
use Rattle.word_sums.proofs.SumLaws.{HoldsSummand}
use Rattle.word_sums.proofs.SumTaintLaws.{IsSummand, plain_summand}

-- ---- bounds

-- both bounds of bits p with taint q, as a formula names them
abbrev pair_of : ℕ → (ℕ → Bool) → (ℕ → Bool) → Word
pair_of n p q = word n (λ i. p i && not (q i)) ++ word n (λ i. p i || q i)

half_is : (n k : ℕ) (x : Summand) (p q : ℕ → Bool) (low high : Bool) (pair : Formula) (vs ts named : List Word) → HoldsSummand n x p q → x.start ≡ k → value_of pair vs ts named ≡ pair_of n p q
    → value_of (half_of n k low high pair) vs ts named ≡ word_of n (bound_number n x low high)
half_is n k x p q low high pair vs ts named h s e =
    value-bound n k low high p q pair vs ts named e
    ∙ sym (holds_word n (bound_number n x low high) _ (side_holds x.start low high h.value h.taint) ∙ ap (λ j. word n (λ i. at_bound (is_upper j low high i) (p i) (q i))) s)

bound_fits : (n : ℕ) (x : Summand) (low high : Bool) → bound_number n x low high < 2 ^ n
bound_fits n x low high = number-word_below n _

operand_pair : (n m p : ℕ) (signed : Bool) (vs ts named : List Word) → length (operand vs p) ≡ m → length (operand ts p) ≡ m → 1 ≤ m
    → value_of (bounds (operand_word n signed m p) (operand_taint n signed m p)) vs ts named ≡ pair_of n (λ i. extended_bit signed i (operand vs p)) (λ i. extended_bit signed i (operand ts p))
operand_pair n m p signed vs ts named e f some =
    value-bounds n _ _ (operand_word n signed m p) (operand_taint n signed m p) vs ts named (gives_value n m signed p vs ts e some named) (gives_taint n m signed p vs ts f some named)

-- ---- less than

own_number : (n a : ℕ) (signed : Bool) → a < 2 ^ n → a ≡ number (extend n signed (word_of n a))
own_number n a signed h = sym (ap number (extend-same n signed (word_of n a) (length-word n _)) ∙ number-word_of n a ∙ mod-eq_of_lt h)

less_value : (signed : Bool) (f g : Formula) (vs ts named : List Word) → value_of (Two (less_op signed) f g) vs ts named ≡ lt_word 1 signed (value_of f vs ts named) (value_of g vs ts named)
less_value true f g vs ts named = refl
less_value false f g vs ts named = refl

less_step : (n a b : ℕ) (signed : Bool) (f g : Formula) (vs ts named : List Word) → a < 2 ^ n → b < 2 ^ n → value_of f vs ts named ≡ word_of n a → value_of g vs ts named ≡ word_of n b
    → value_of (Two (less_op signed) f g) vs ts named ≡ flag_word 1 (less_number n signed a b)
less_step n a b signed f g vs ts named h k p q =
    let long_a : length (word_of n a) ≡ n = length-word n _ in
    let long_b : length (word_of n b) ≡ n = length-word n _ in
    less_value signed f g vs ts named ∙ ap (λ (w : Word). lt_word 1 signed w (value_of g vs ts named)) p ∙ ap (λ (w : Word). lt_word 1 signed (word_of n a) w) q
    ∙ sym (ap (flag_word 1) (compared-less n signed (word_of n a) (word_of n b) a b (less_number n signed a b) (omega arith) (omega arith) (own_number n a signed h) (own_number n b signed k) refl))

flag_xor : (b c : Bool) → word 1 (λ i. xor (i == 0 && b) (i == 0 && c)) ≡ flag_word 1 (xor b c)
flag_xor b c = refl

less_bit_is : (n a p b q : ℕ) (signed : Bool) (vs ts : List Word) (x y : Summand)
    → length (operand vs p) ≡ a → length (operand ts p) ≡ a → 1 ≤ a → length (operand vs q) ≡ b → length (operand ts q) ≡ b → 1 ≤ b
    → HoldsSummand n x (λ i. extended_bit signed i (operand vs p)) (λ i. extended_bit signed i (operand ts p)) → x.start ≡ order_start n signed a
    → HoldsSummand n y (λ i. extended_bit signed i (operand vs q)) (λ i. extended_bit signed i (operand ts q)) → y.start ≡ order_start n signed b
    → value_of (less_bit n signed a p b q) vs ts [] ≡ flag_word 1 (order_differs n signed x y)
less_bit_is n a p b q signed vs ts x y va ta some_a vb tb some_b h j k l =
    let first : Word = value_of (bounds (operand_word n signed a p) (operand_taint n signed a p)) vs ts [] in
    let second : Word = value_of (bounds (operand_word n signed b q) (operand_taint n signed b q)) vs ts (first ∷ []) in
    let inner : List Word = second ∷ first ∷ [] in
    let of_first : first ≡ pair_of n (λ i. extended_bit signed i (operand vs p)) (λ i. extended_bit signed i (operand ts p)) = operand_pair n a p signed vs ts [] va ta some_a in
    let of_second : second ≡ pair_of n (λ i. extended_bit signed i (operand vs q)) (λ i. extended_bit signed i (operand ts q)) = operand_pair n b q signed vs ts (first ∷ []) vb tb some_b in
    let r0 : Bool = less_number n signed (bound_number n x false true) (bound_number n y true false) in
    let r1 : Bool = less_number n signed (bound_number n x true false) (bound_number n y false true) in
    let x0 : Formula = least_of n (order_start n signed a) (Bound 1) in
    let x1 : Formula = greatest_of n (order_start n signed a) (Bound 1) in
    let y0 : Formula = least_of n (order_start n signed b) (Bound 0) in
    let y1 : Formula = greatest_of n (order_start n signed b) (Bound 0) in
    value-xor 1 (λ i. i == 0 && r0) (λ i. i == 0 && r1) (Two (less_op signed) x0 y1) (Two (less_op signed) x1 y0) vs ts inner
    (less_step n (bound_number n x false true) (bound_number n y true false) signed x0 y1 vs ts inner (bound_fits n x false true) (bound_fits n y true false)
    (half_is n _ x _ _ false true (Bound 1) vs ts inner h j of_first) (half_is n _ y _ _ true false (Bound 0) vs ts inner k l of_second))
    (less_step n (bound_number n x true false) (bound_number n y false true) signed x1 y0 vs ts inner (bound_fits n x true false) (bound_fits n y false true)
    (half_is n _ x _ _ true false (Bound 1) vs ts inner h j of_first) (half_is n _ y _ _ false true (Bound 0) vs ts inner k l of_second))
    ∙ flag_xor r0 r1

-- an operand of m bits, v with taint t, extended to n bits, that starts where its bits make its number smaller
pub record IsOrdered (n : ℕ) (signed : Bool) (m v t : ℕ) (x : Summand) : Type 0 where
  pub value : word_of n x.value ≡ extend n signed (word_of m v)
  pub taint : word_of n x.taint ≡ extend n signed (word_of m t)
  pub start : x.start ≡ order_start n signed m

ordered_holds : {n m v t : ℕ} {signed : Bool} {x : Summand} → IsOrdered n signed m v t x → HoldsSummand n x (λ i. extended_bit signed i (word_of m v)) (λ i. extended_bit signed i (word_of m t))
ordered_holds {n = n} {x = x} h = record { value = word_holds n x.value _ h.value; taint = word_holds n x.taint _ h.taint }

-- a number that holds a flag at every width
abbrev pub HoldsFlag : ℕ → Bool → Type 0
HoldsFlag r d = (n : ℕ) → 1 ≤ n → word_of n r ≡ flag_word n d

flag_is : (n r : ℕ) (d e : Bool) (f : Formula) (vs ts : List Word) → 1 ≤ n → HoldsFlag r d → d ≡ e → value_of f vs ts [] ≡ flag_word 1 e → word_of n r ≡ value_of (extended n false 1 f) vs ts []
flag_is n r d e f vs ts some h k g = h n some ∙ ap (flag_word n) k ∙ sym (value-flag n e f vs ts [] g)

pub less_taint_is : (s : Shape) (v t : Pair) (m r : ℕ) (x y : Summand) (d : Bool) → 1 ≤ s.a → 1 ≤ s.b → 1 ≤ s.y → m ≡ max s.a s.b → IsOrdered m s.signed s.a v.a t.a x → IsOrdered m s.signed s.b v.b t.b y
    → d ≡ order_differs m s.signed x y → HoldsFlag r d → word_of s.y r ≡ taint_of less_taint s v t
unfolding taint_of
less_taint_is s v t m r x y d some_a some_b some_y e h k q w =
    flag_is s.y r d (order_differs m s.signed x y) (less_bit m s.signed s.a 0 s.b 1) (pair_words s v) (pair_words s t) some_y w q
    (less_bit_is m s.a 0 s.b 1 s.signed (pair_words s v) (pair_words s t) x y (length-word s.a _) (length-word s.a _) some_a (length-word s.b _) (length-word s.b _) some_b
    (ordered_holds h) h.start (ordered_holds k) k.start)
    ∙ ap (λ n. value_of (extended s.y false 1 (less_bit n s.signed s.a 0 s.b 1)) (pair_words s v) (pair_words s t) []) e

pub greater_taint_is : (s : Shape) (v t : Pair) (m r : ℕ) (x y : Summand) (d : Bool) → 1 ≤ s.a → 1 ≤ s.b → 1 ≤ s.y → m ≡ max s.a s.b → IsOrdered m s.signed s.a v.a t.a x → IsOrdered m s.signed s.b v.b t.b y
    → d ≡ order_differs m s.signed y x → HoldsFlag r d → word_of s.y r ≡ taint_of greater_taint s v t
unfolding taint_of
greater_taint_is s v t m r x y d some_a some_b some_y e h k q w =
    flag_is s.y r d (order_differs m s.signed y x) (less_bit m s.signed s.b 1 s.a 0) (pair_words s v) (pair_words s t) some_y w q
    (less_bit_is m s.b 1 s.a 0 s.signed (pair_words s v) (pair_words s t) y x (length-word s.b _) (length-word s.b _) some_b (length-word s.a _) (length-word s.a _) some_a
    (ordered_holds k) k.start (ordered_holds h) h.start)
    ∙ ap (λ n. value_of (extended s.y false 1 (less_bit n s.signed s.b 1 s.a 0)) (pair_words s v) (pair_words s t) []) e

-- ---- equality

pub can_meet_is : (n : ℕ) (x y : Summand) (p q : Bool) (a0 b0 a1 b1 u : ℕ) (r : Bool) → a0 ≡ bound_number n x false p → b0 ≡ bound_number n y false q → a1 ≡ bound_number n x true p → b1 ≡ bound_number n y true q
    → u < 2 ^ n → word_of n u ≡ not_word n false (word_of n (bit_and a1 b1)) → ((m : ℕ) → bit_and (bit_or a0 b0) u < 2 ^ m → r ≡ has_one (word_of m (bit_and (bit_or a0 b0) u))) → not r ≡ can_meet n x y p q
can_meet_is n x y p q a0 b0 a1 b1 u r e f g h l w is =
    ap not (is n (and_fits n (bit_or a0 b0) u l) ∙ ap has_one (holds_word n (bit_and (bit_or a0 b0) u) _
    (holds_and (holds_or (own_bits n a0) (own_bits n b0)) (holds_not w (holds_and (own_bits n a1) (own_bits n b1))))
    ∙ ap (λ z. word n (λ i. (digit z i || digit b0 i) && not (digit a1 i && digit b1 i))) e
    ∙ ap (λ z. word n (λ i. (digit (bound_number n x false p) i || digit z i) && not (digit a1 i && digit b1 i))) f
    ∙ ap (λ z. word n (λ i. (digit (bound_number n x false p) i || digit (bound_number n y false q) i) && not (digit z i && digit b1 i))) g
    ∙ ap (λ z. word n (λ i. (digit (bound_number n x false p) i || digit (bound_number n y false q) i) && not (digit (bound_number n x true p) i && digit z i))) h))

flag_not : (b : Bool) → word 1 (λ i. not (bit (flag_word 1 b) i)) ≡ flag_word 1 (not b)
flag_not b = refl

flag_or : (b c : Bool) → word 1 (λ i. (i == 0 && b) || (i == 0 && c)) ≡ flag_word 1 (b || c)
flag_or b c = refl

flag_and : (b c : Bool) → word 1 (λ i. (i == 0 && b) && (i == 0 && c)) ≡ flag_word 1 (b && c)
flag_and b c = refl

value-no : (b : Bool) (f : Formula) (vs ts named : List Word) → value_of f vs ts named ≡ flag_word 1 b → value_of (One Not f) vs ts named ≡ flag_word 1 (not b)
value-no b f vs ts named e = ap (λ (w : Word). word (length w) (λ i. not (bit w i))) e ∙ flag_not b

value-either : (b c : Bool) (f g : Formula) (vs ts named : List Word) → value_of f vs ts named ≡ flag_word 1 b → value_of g vs ts named ≡ flag_word 1 c → value_of (Two Or f g) vs ts named ≡ flag_word 1 (b || c)
value-either b c f g vs ts named e h = value-or 1 (λ i. i == 0 && b) (λ i. i == 0 && c) f g vs ts named e h ∙ flag_or b c

value-case : (split : Bool) (f : Bool → Formula) (b : Bool → Bool) (vs ts named : List Word) → ((p : Bool) → value_of (f p) vs ts named ≡ flag_word 1 (b p)) → value_of (either_case split f) vs ts named ≡ flag_word 1 (some_case split b)
value-case true f b vs ts named h = value-either (b false) (b true) (f false) (f true) vs ts named (h false) (h true)
value-case false f b vs ts named h = h false

meets_at_is : (n j k : ℕ) (x y : Summand) (pf pt pg pu : ℕ → Bool) (vs ts named : List Word) → HoldsSummand n x pf pt → x.start ≡ j → HoldsSummand n y pg pu → y.start ≡ k
    → operand named 1 ≡ pair_of n pf pt → operand named 0 ≡ pair_of n pg pu → (p q : Bool) → value_of (meets_at n j k p q) vs ts named ≡ flag_word 1 (can_meet n x y p q)
meets_at_is n j k x y pf pt pg pu vs ts named h s i l e f p q =
    let a0 : Formula = half_of n j false p (Bound 1) in
    let a1 : Formula = half_of n j true p (Bound 1) in
    let b0 : Formula = half_of n k false q (Bound 0) in
    let b1 : Formula = half_of n k true q (Bound 0) in
    let clash : Formula = Two And (Two Or a0 b0) (One Not (Two And a1 b1)) in
    let is : value_of clash vs ts named ≡ clash_word n x y p q =
    value-and n (λ c. digit (bound_number n x false p) c || digit (bound_number n y false q) c) (λ c. not (digit (bound_number n x true p) c && digit (bound_number n y true q) c)) (Two Or a0 b0) (One Not (Two And a1 b1)) vs ts named
    (value-or n (digit (bound_number n x false p)) (digit (bound_number n y false q)) a0 b0 vs ts named (half_is n j x pf pt false p (Bound 1) vs ts named h s e) (half_is n k y pg pu false q (Bound 0) vs ts named i l f))
    (value-not n (λ c. digit (bound_number n x true p) c && digit (bound_number n y true q) c) (Two And a1 b1) vs ts named
    (value-and n (digit (bound_number n x true p)) (digit (bound_number n y true q)) a1 b1 vs ts named (half_is n j x pf pt true p (Bound 1) vs ts named h s e) (half_is n k y pg pu true q (Bound 0) vs ts named i l f))) in
    value-no (has_one (clash_word n x y p q)) (One ReduceOr clash) vs ts named (ap (λ (w : Word). flag_word 1 (has_one w)) is)

equal_bit_is : (n a b : ℕ) (signed : Bool) (v w t u : Word) (x y : Summand) → length v ≡ a → length t ≡ a → 1 ≤ a → length w ≡ b → length u ≡ b → 1 ≤ b
    → HoldsSummand n x (λ i. extended_bit signed i v) (λ i. extended_bit signed i t) → x.start ≡ sign_start n signed a
    → HoldsSummand n y (λ i. extended_bit signed i w) (λ i. extended_bit signed i u) → y.start ≡ sign_start n signed b
    → value_of (equal_bit n signed a b) (v ∷ w ∷ []) (t ∷ u ∷ []) [] ≡ flag_word 1 (meets_anywhere n x y && (has_one t || has_one u))
equal_bit_is n a b signed v w t u x y va ta some_a vb tb some_b h s k l =
    let vs : List Word = v ∷ w ∷ [] in
    let ts : List Word = t ∷ u ∷ [] in
    let first : Word = value_of (bounds (operand_word n signed a 0) (operand_taint n signed a 0)) vs ts [] in
    let second : Word = value_of (bounds (operand_word n signed b 1) (operand_taint n signed b 1)) vs ts (first ∷ []) in
    let inner : List Word = second ∷ first ∷ [] in
    let j : ℕ = sign_start n signed a in
    let m : ℕ = sign_start n signed b in
    let of_first : first ≡ pair_of n (λ i. extended_bit signed i v) (λ i. extended_bit signed i t) = operand_pair n a 0 signed vs ts [] va ta some_a in
    let of_second : second ≡ pair_of n (λ i. extended_bit signed i w) (λ i. extended_bit signed i u) = operand_pair n b 1 signed vs ts (first ∷ []) vb tb some_b in
    let all : value_of (meets n j m) vs ts inner ≡ flag_word 1 (some_case (nat_lt j n) (λ p. some_case (nat_lt m n) (can_meet n x y p))) =
    value-case (nat_lt j n) (λ p. either_case (nat_lt m n) (meets_at n j m p)) (λ p. some_case (nat_lt m n) (can_meet n x y p)) vs ts inner
    (λ p. value-case (nat_lt m n) (meets_at n j m p) (can_meet n x y p) vs ts inner (meets_at_is n j m x y _ _ _ _ vs ts inner h s k l of_first of_second p)) in
    value-and 1 (λ i. i == 0 && some_case (nat_lt j n) (λ p. some_case (nat_lt m n) (can_meet n x y p))) (λ i. i == 0 && (has_one t || has_one u)) (meets n j m) (Two Or (One ReduceOr (Taint 0)) (One ReduceOr (Taint 1))) vs ts inner
    all (value-either (has_one t) (has_one u) (One ReduceOr (Taint 0)) (One ReduceOr (Taint 1)) vs ts inner refl refl)
    ∙ flag_and (some_case (nat_lt j n) (λ p. some_case (nat_lt m n) (can_meet n x y p))) (has_one t || has_one u)
    ∙ sym (ap (λ c. flag_word 1 (some_case (nat_lt c n) (second_meets n x y) && (has_one t || has_one u))) s
    ∙ ap (λ c. flag_word 1 (some_case (nat_lt j n) (λ p. some_case (nat_lt c n) (can_meet n x y p)) && (has_one t || has_one u))) l)

pub equal_taint_is : (s : Shape) (v t : Pair) (m r : ℕ) (x y : Summand) (d : Bool) → 1 ≤ s.a → 1 ≤ s.b → 1 ≤ s.y → m ≡ max s.a s.b → IsSummand m s.signed s.a v.a t.a x → IsSummand m s.signed s.b v.b t.b y
    → d ≡ (meets_anywhere m x y && (has_one (word_of s.a t.a) || has_one (word_of s.b t.b))) → HoldsFlag r d → word_of s.y r ≡ taint_of equal_taint s v t
unfolding taint_of
equal_taint_is s v t m r x y d some_a some_b some_y e h k q w =
    flag_is s.y r d _ (equal_bit m s.signed s.a s.b) (pair_words s v) (pair_words s t) some_y w q
    (equal_bit_is m s.a s.b s.signed (word_of s.a v.a) (word_of s.b v.b) (word_of s.a t.a) (word_of s.b t.b) x y (length-word s.a _) (length-word s.a _) some_a (length-word s.b _) (length-word s.b _) some_b
    (plain_summand h) h.start (plain_summand k) k.start)
    ∙ ap (λ n. value_of (extended s.y false 1 (equal_bit n s.signed s.a s.b)) (pair_words s v) (pair_words s t) []) e

pub both_tainted : (p q x y : Bool) (m : Bool) → p ≡ x → q ≡ y → (m && (p || q)) ≡ (m && (x || y))
both_tainted p q x y m e f = ap (λ z. m && (z || q)) e ∙ ap (λ z. m && (x || z)) f
