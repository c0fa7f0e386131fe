-- What the formulas of $alu stand for.
use Rattle.std.specs.Prelude.{ℕ, zero, suc, ◌+◌, ◌%◌, ◌^◌, ◌<◌, ◌≤◌, ◌≡◌, ◌==◌, nat_lt, Bool, true, false, not, ◌&&◌, ◌||◌, if◌then◌else◌, List, [], ◌∷◌, ◌++◌, length, refl}
use Rattle.std.proofs.Common.{arith, sym, ap, ◌∙◌}
use Rattle.std.proofs.Math.Nat.{mod-add-mod}
use Rattle.cif_defs.specs.Words.{Word, bit, bit_value, extend, extended_bit, flag_word, majority, number, operand, word, word_of, xor}
use Rattle.cif_defs.proofs.Numbers.{word-same}
use Rattle.cif_defs.proofs.Sums.{carry, sum_bit}
use Rattle.cif_defs.proofs.WordLaws.{bit-word, length-word}
use Rattle.cif_defs.proofs.WordNumbers.{number-word_of, word_of-same}
use Rattle.cif_term.specs.declared.ops.Op1.TheVariants.{Not}
use Rattle.cif_term.specs.declared.ops.Op2.TheVariants.{Add, And, Or, Xor}
use Rattle.cif_term.specs.Extended.{extended}
use Rattle.cif_term.specs.Formulas.{Bound, Formula, One, Taint, Two, value_of}
use Rattle.cif_term.proofs.Values.{value-and, value-extended, value-not, value-or, value-xor}
use Rattle.rule_arith.specs.declared.operands.Addend.TheVariants.{Plain, Inverted}
use Rattle.rule_arith.specs.declared.sums.Sums.{Sums}
use Rattle.rule_arith.specs.Addends.{addend_taint, addend_word, bit_bound, operand_taint, operand_word, repeated}
use Rattle.rule_arith.specs.AluFormulas.{alu_carry_taint, alu_sum_taint, alu_xor_taint, carries_at, carry_bounds}
use Rattle.rule_arith.specs.AluFormulas.{alu_sums as sums_named}
use Rattle.rule_arith.specs.Bounds.{bounds, half_of, is_upper, sign_start, taint_below}
use Rattle.rule_arith.specs.Cases.{joined}
use Rattle.rule_arith.specs.SumFormulas.{first_operand, second_operand, sum_at, sums_taint}
use Rattle.rule_arith.proofs.AluRules.{alu_sum_rule, alu_sums, alu_xor_rule}
use Rattle.rule_arith.proofs.AluCarries.{alu_carries, alu_carry_rule, same_side}
use Rattle.rule_arith.proofs.LastBit.{four}
use Rattle.rule_arith.proofs.BoundValues.{joined_values, value-bound, value-bounds, value-cases, value-half_of, value-joined, value-taint_below}
use Rattle.rule_arith.proofs.Limits.{at_bound}
use Rattle.rule_arith.proofs.OrderLimits.{one_bit}
use Rattle.rule_arith.proofs.OrderTaints.{value-flag}
use Rattle.rule_arith.proofs.SumRules.{has_sides, number-flag, stands_single, sum_bits}
use Rattle.rule_arith.proofs.SumTaints.{gives_plain, gives_taint, gives_value}
use Rattle.rule_arith.proofs.SumValues.{Gives, bound_at, value-add}
use Rattle.rule_arith.proofs.Turns.{cases_turn, joined_bit}

-- ---- single bits

pub value-bit_bound : (p : ℕ) (upper x y : Bool) (vs ts named : List Word) → operand vs p ≡ x ∷ [] → operand ts p ≡ y ∷ [] → value_of (bit_bound p upper) vs ts named ≡ at_bound upper x y ∷ []
value-bit_bound p true x y vs ts named e f =
    ap (λ (w : Word). word (length w) (λ i. bit w i || bit (operand ts p) i)) e ∙ ap (λ (w : Word). word 1 (λ i. bit (x ∷ []) i || bit w i)) f
value-bit_bound p false x y vs ts named e f =
    ap (λ (w : Word). word (length w) (λ i. bit w i && bit (word (length (operand ts p)) (λ k. not (bit (operand ts p) k))) i)) e
    ∙ ap (λ (w : Word). word 1 (λ i. bit (x ∷ []) i && bit (word (length w) (λ k. not (bit w k))) i)) f

repeated_bit : (b : Bool) (i : ℕ) → extended_bit true i (b ∷ []) ≡ b
repeated_bit b zero = refl
repeated_bit b (suc i) = refl

pub value-repeated : (n : ℕ) (b : Bool) (f : Formula) (vs ts named : List Word) → value_of f vs ts named ≡ b ∷ [] → value_of (repeated n f) vs ts named ≡ word n (λ i. b)
value-repeated n b f vs ts named e =
    value-extended n 1 true f vs ts named (ap length e) (omega arith) ∙ ap (extend n true) e ∙ word-same n _ _ (λ i h. repeated_bit b i)

-- ---- addends of $alu

pub gives_inverted : (n m : ℕ) (signed : Bool) (p q : ℕ) (upper x y : Bool) (vs ts : List Word) → length (operand vs p) ≡ m → 1 ≤ m → operand vs q ≡ x ∷ [] → operand ts q ≡ y ∷ []
    → Gives n vs ts (Two Xor (operand_word n signed m p) (repeated n (bit_bound q upper))) (λ i. xor (extended_bit signed i (operand vs p)) (at_bound upper x y))
gives_inverted n m signed p q upper x y vs ts e some f g named =
    value-xor n (λ i. extended_bit signed i (operand vs p)) (λ i. at_bound upper x y) (operand_word n signed m p) (repeated n (bit_bound q upper)) vs ts named
    (gives_value n m signed p vs ts e some named) (value-repeated n (at_bound upper x y) (bit_bound q upper) vs ts named (value-bit_bound q upper x y vs ts named f g))

-- ---- the carry in

value-carry : (n : ℕ) (p : ℕ) (upper x y : Bool) (vs ts named : List Word) → operand vs p ≡ x ∷ [] → operand ts p ≡ y ∷ [] → value_of (extended n false 1 (bit_bound p upper)) vs ts named ≡ flag_word n (at_bound upper x y)
value-carry n p upper x y vs ts named e f = value-flag n (at_bound upper x y) (bit_bound p upper) vs ts named (value-bit_bound p upper x y vs ts named e f ∙ flag_of_one (at_bound upper x y))
  where
    flag_of_one : (b : Bool) → b ∷ [] ≡ flag_word 1 b
    flag_of_one b = refl

carried_half : (n i : ℕ) (upper b c : Bool) → (if is_upper n upper upper i then (i == 0 && c) else (i == 0 && b)) ≡ (i == 0 && (if upper then c else b))
carried_half n i upper b c = ap (λ s. if s then (i == 0 && c) else (i == 0 && b)) (same_side n i upper) ∙ by_side upper
  where
    by_side : (u : Bool) → (if u then (i == 0 && c) else (i == 0 && b)) ≡ (i == 0 && (if u then c else b))
    by_side true = refl
    by_side false = refl

chosen_bound : (upper x y : Bool) → (if upper then at_bound true x y else at_bound false x y) ≡ at_bound upper x y
chosen_bound true x y = refl
chosen_bound false x y = refl

value-carried : (n z : ℕ) (upper x y : Bool) (vs ts named : List Word) → operand named z ≡ flag_word n (at_bound false x y) ++ flag_word n (at_bound true x y)
    → value_of (half_of n n upper upper (Bound z)) vs ts named ≡ flag_word n (at_bound upper x y)
value-carried n z upper x y vs ts named e =
    value-half_of n n upper upper (λ i. i == 0 && at_bound false x y) (λ i. i == 0 && at_bound true x y) (Bound z) vs ts named e
    ∙ word-same n _ _ (λ i h. carried_half n i upper (at_bound false x y) (at_bound true x y) ∙ ap (λ b. i == 0 && b) (chosen_bound upper x y))

-- ---- a sum with a carry in

sum_word : (n : ℕ) (p q : ℕ → Bool) → word n (λ i. sum_bit false (word n p) (word n q) i) ≡ word_of n (number (word n p) + number (word n q) + 0)
sum_word n p q = word-same n _ _ (λ i h. sym (sum_bits n false (word n p) (word n q) i (length-word n p) (length-word n q) h) ∙ bit-word n _ i false h)

pub add_carry : (n : ℕ) (p q : ℕ → Bool) (c : Bool) (i : ℕ) → i < n → sum_bit false (word n (λ k. sum_bit false (word n p) (word n q) k)) (flag_word n c) i ≡ sum_bit c (word n p) (word n q) i
add_carry n p q c i h =
    let x : ℕ = number (word n p) + number (word n q) + 0 in
    let s : Word = word n (λ k. sum_bit false (word n p) (word n q) k) in
    let of_s : number s ≡ x % 2 ^ n = ap number (sum_word n p q) ∙ number-word_of n x in
    let of_c : number (flag_word n c) ≡ bit_value c = number-flag n c (omega arith) in
    let added : number s + number (flag_word n c) + 0 ≡ x % 2 ^ n + bit_value c = omega arith in
    let whole : x + bit_value c ≡ number (word n p) + number (word n q) + bit_value c = omega arith in
    sym (sum_bits n false s (flag_word n c) i (length-word n _) (length-word n _) h)
    ∙ ap (λ k. bit (word_of n k) i) added ∙ ap (λ (w : Word). bit w i) (word_of-same n (x % 2 ^ n + bit_value c) (x + bit_value c) (mod-add-mod x (2 ^ n) (bit_value c)))
    ∙ ap (λ k. bit (word_of n k) i) whole ∙ sum_bits n c (word n p) (word n q) i (length-word n p) (length-word n q) h

-- ---- what is named

-- the bits and the taint of the first addend, of the second where BI is least and greatest, and of the carry in
record IsNamed (n : ℕ) (named : List Word) (pf pt pg0 pg1 pu : ℕ → Bool) (x y : Bool) : Type 0 where
  first : operand named 3 ≡ word n (λ i. pf i && not (pt i)) ++ word n (λ i. pf i || pt i)
  carried : operand named 2 ≡ flag_word n (at_bound false x y) ++ flag_word n (at_bound true x y)
  least : operand named 1 ≡ word n (λ i. pg0 i && not (pu i)) ++ word n (λ i. pg0 i || pu i)
  greatest : operand named 0 ≡ word n (λ i. pg1 i && not (pu i)) ++ word n (λ i. pg1 i || pu i)

second_named : (n : ℕ) (vs ts named : List Word) (pf pt pg0 pg1 pu : ℕ → Bool) (x y : Bool) → IsNamed n named pf pt pg0 pg1 pu x y → (inverted : Bool)
    → value_of (Bound (if inverted then 0 else 1)) vs ts named ≡ word n (λ i. (if inverted then pg1 i else pg0 i) && not (pu i)) ++ word n (λ i. (if inverted then pg1 i else pg0 i) || pu i)
second_named n vs ts named pf pt pg0 pg1 pu x y h true = h.greatest
second_named n vs ts named pf pt pg0 pg1 pu x y h false = h.least

value-sum_at : (n j k : ℕ) (inverted : Bool) (vs ts named : List Word) (pf pt pg0 pg1 pu : ℕ → Bool) (x y : Bool) → IsNamed n named pf pt pg0 pg1 pu x y → (upper p q : Bool)
    → value_of (sum_at (sums_named n j k inverted) upper p q) vs ts named
    ≡ word n (λ i. sum_bit (at_bound upper x y) (bound_at n j pf pt upper p) (bound_at n k (λ i. if inverted then pg1 i else pg0 i) pu upper q) i)
value-sum_at n j k inverted vs ts named pf pt pg0 pg1 pu x y h upper p q =
    let pg : ℕ → Bool = λ i. if inverted then pg1 i else pg0 i in
    let first : Formula = half_of n j upper p (Bound 3) in
    let second : Formula = half_of n k upper q (Bound (if inverted then 0 else 1)) in
    value-add n (λ i. sum_bit false (bound_at n j pf pt upper p) (bound_at n k pg pu upper q) i) (λ i. i == 0 && at_bound upper x y) (Two Add first second) (half_of n n upper upper (Bound 2)) vs ts named
    (value-add n _ _ first second vs ts named
    (value-bound n j upper p pf pt (Bound 3) vs ts named h.first)
    (value-bound n k upper q pg pu (Bound (if inverted then 0 else 1)) vs ts named (second_named n vs ts named pf pt pg0 pg1 pu x y h inverted)))
    (value-carried n 2 upper x y vs ts named h.carried)
    ∙ word-same n _ _ (λ i l. add_carry n _ _ (at_bound upper x y) i l)

-- ---- carries

-- from both bits and the sum
carry_from_sum : (x y c : Bool) → ((x && y) || ((x || y) && not (xor (xor x y) c))) ≡ majority x y c
carry_from_sum true true true = refl
carry_from_sum true true false = refl
carry_from_sum true false true = refl
carry_from_sum true false false = refl
carry_from_sum false true true = refl
carry_from_sum false true false = refl
carry_from_sum false false true = refl
carry_from_sum false false false = refl

value-carries : (n : ℕ) (inverted : Bool) (vs ts named : List Word) (pf pt pg0 pg1 pu : ℕ → Bool) (x y : Bool) → IsNamed n named pf pt pg0 pg1 pu x y → (upper : Bool)
    → value_of (carries_at (sums_named n n n inverted) upper) vs ts named
    ≡ word n (λ i. carry (at_bound upper x y) (bound_at n n pf pt upper upper) (bound_at n n (λ i. if inverted then pg1 i else pg0 i) pu upper upper) (suc i))
value-carries n inverted vs ts named pf pt pg0 pg1 pu x y h upper =
    let pg : ℕ → Bool = λ i. if inverted then pg1 i else pg0 i in
    let a : Formula = half_of n n upper upper (Bound 3) in
    let b : Formula = half_of n n upper upper (Bound (if inverted then 0 else 1)) in
    let s : Formula = sum_at (sums_named n n n inverted) upper upper upper in
    let u : ℕ → Bool = λ i. at_bound (is_upper n upper upper i) (pf i) (pt i) in
    let w : ℕ → Bool = λ i. at_bound (is_upper n upper upper i) (pg i) (pu i) in
    let t : ℕ → Bool = λ i. sum_bit (at_bound upper x y) (word n u) (word n w) i in
    let of_a : value_of a vs ts named ≡ word n u = value-bound n n upper upper pf pt (Bound 3) vs ts named h.first in
    let of_b : value_of b vs ts named ≡ word n w = value-bound n n upper upper pg pu (Bound (if inverted then 0 else 1)) vs ts named (second_named n vs ts named pf pt pg0 pg1 pu x y h inverted) in
    let of_s : value_of s vs ts named ≡ word n t = value-sum_at n n n inverted vs ts named pf pt pg0 pg1 pu x y h upper upper upper in
    value-or n (λ i. u i && w i) (λ i. (u i || w i) && not (t i)) (Two And a b) (Two And (Two Or a b) (One Not s)) vs ts named
    (value-and n u w a b vs ts named of_a of_b)
    (value-and n (λ i. u i || w i) (λ i. not (t i)) (Two Or a b) (One Not s) vs ts named (value-or n u w a b vs ts named of_a of_b) (value-not n t s vs ts named of_s))
    ∙ word-same n _ _ (λ i l. carried_at i l u w (at_bound upper x y))
  where
    carried_at : (i : ℕ) → i < n → (u w : ℕ → Bool) (c : Bool) → ((u i && w i) || ((u i || w i) && not (sum_bit c (word n u) (word n w) i))) ≡ carry c (word n u) (word n w) (suc i)
    carried_at i l u w c =
        ap (λ z. (u i && w i) || ((u i || w i) && not (xor (xor z (bit (word n w) i)) (carry c (word n u) (word n w) i)))) (bit-word n u i false l)
        ∙ ap (λ z. (u i && w i) || ((u i || w i) && not (xor (xor (u i) z) (carry c (word n u) (word n w) i)))) (bit-word n w i false l)
        ∙ carry_from_sum (u i) (w i) (carry c (word n u) (word n w) i)
        ∙ sym (ap (λ z. majority z (bit (word n w) i) (carry c (word n u) (word n w) i)) (bit-word n u i false l) ∙ ap (λ z. majority (u i) z (carry c (word n u) (word n w) i)) (bit-word n w i false l))

-- ---- the outputs

-- what alu_named names
abbrev inner_words : ℕ → Bool → ℕ → ℕ → List Word → List Word → List Word
inner_words n signed a b vs ts =
    let first : Word = value_of (bounds (addend_word n (Plain (first_operand signed a))) (addend_taint n (Plain (first_operand signed a)))) vs ts [] in
    let carried : Word = value_of (carry_bounds n) vs ts (first ∷ []) in
    let least : Word = value_of (bounds (addend_word n (Inverted (second_operand signed b) 3 false)) (addend_taint n (Inverted (second_operand signed b) 3 false))) vs ts (carried ∷ first ∷ []) in
    let greatest : Word = value_of (bounds (addend_word n (Inverted (second_operand signed b) 3 true)) (addend_taint n (Inverted (second_operand signed b) 3 true))) vs ts (least ∷ carried ∷ first ∷ []) in
    greatest ∷ least ∷ carried ∷ first ∷ []

-- the bits of A, and of B where BI is at a bound
abbrev bits_of : Bool → Bool → Word → ℕ → Bool
bits_of signed inv w i = xor (extended_bit signed i w) inv

inner_named : (n : ℕ) (signed : Bool) (a ta b tb c tc d td : Word) → length ta ≡ length a → length tb ≡ length b → 1 ≤ length a → 1 ≤ length b → length c ≡ 1 → length tc ≡ 1 → length d ≡ 1 → length td ≡ 1
    → IsNamed n (inner_words n signed (length a) (length b) (four a b c d) (four ta tb tc td)) (bits_of signed false a) (λ i. extended_bit signed i ta)
    (bits_of signed (at_bound false (bit d 0) (bit td 0)) b) (bits_of signed (at_bound true (bit d 0) (bit td 0)) b) (λ i. extended_bit signed i tb) (bit c 0) (bit tc 0)
inner_named n signed a ta b tb c tc d td e f some_a some_b one_c one_tc one_d one_td =
    let vs : List Word = four a b c d in
    let ts : List Word = four ta tb tc td in
    let of_c : c ≡ bit c 0 ∷ [] = one_bit c one_c in
    let of_tc : tc ≡ bit tc 0 ∷ [] = one_bit tc one_tc in
    let of_d : d ≡ bit d 0 ∷ [] = one_bit d one_d in
    let of_td : td ≡ bit td 0 ∷ [] = one_bit td one_td in
    record {
      first = value-bounds n (bits_of signed false a) (λ i. extended_bit signed i ta) (operand_word n signed (length a) 0) (operand_taint n signed (length a) 0) vs ts []
          (gives_plain n (length a) signed 0 vs ts refl some_a []) (gives_taint n (length a) signed 0 vs ts e some_a []);
      carried = joined_values (extended n false 1 (bit_bound 2 false)) (extended n false 1 (bit_bound 2 true)) vs ts _ _ _
          (value-carry n 2 false (bit c 0) (bit tc 0) vs ts _ of_c of_tc) (value-carry n 2 true (bit c 0) (bit tc 0) vs ts _ of_c of_tc);
      least = value-bounds n (bits_of signed (at_bound false (bit d 0) (bit td 0)) b) (λ i. extended_bit signed i tb) (Two Xor (operand_word n signed (length b) 1) (repeated n (bit_bound 3 false))) (operand_taint n signed (length b) 1) vs ts _
          (gives_inverted n (length b) signed 1 3 false (bit d 0) (bit td 0) vs ts refl some_b of_d of_td _) (gives_taint n (length b) signed 1 vs ts f some_b _);
      greatest = value-bounds n (bits_of signed (at_bound true (bit d 0) (bit td 0)) b) (λ i. extended_bit signed i tb) (Two Xor (operand_word n signed (length b) 1) (repeated n (bit_bound 3 true))) (operand_taint n signed (length b) 1) vs ts _
          (gives_inverted n (length b) signed 1 3 true (bit d 0) (bit td 0) vs ts refl some_b of_d of_td _) (gives_taint n (length b) signed 1 vs ts f some_b _);
    }

-- Y
pub value-alu_sum : (n : ℕ) (signed : Bool) (a ta b tb c tc d td : Word) → length ta ≡ length a → length tb ≡ length b → 1 ≤ length a → 1 ≤ length b → length c ≡ 1 → length tc ≡ 1 → length d ≡ 1 → length td ≡ 1
    → value_of (alu_sum_taint n signed (length a) (length b)) (four a b c d) (four ta tb tc td) [] ≡ word n (alu_sum_rule n signed a ta b tb c tc d td)
value-alu_sum n signed a ta b tb c tc d td e f some_a some_b one_c one_tc one_d one_td =
    let vs : List Word = four a b c d in
    let ts : List Word = four ta tb tc td in
    let j : ℕ = sign_start n signed (length a) in
    let k : ℕ = sign_start n signed (length b) in
    let inner : List Word = inner_words n signed (length a) (length b) vs ts in
    let named = inner_named n signed a ta b tb c tc d td e f some_a some_b one_c one_tc one_d one_td in
    let g0 : ℕ → Bool → Bool → Bool → Bool = alu_sums n signed a ta b tb c tc (at_bound false (bit d 0) (bit td 0)) in
    let g1 : ℕ → Bool → Bool → Bool → Bool = alu_sums n signed a ta b tb c tc (at_bound true (bit d 0) (bit td 0)) in
    let s0 : Sums = sums_named n j k false in
    let s1 : Sums = sums_named n j k true in
    let at0 = value-sum_at n j k false vs ts inner _ _ _ _ _ _ _ named in
    let at1 = value-sum_at n j k true vs ts inner _ _ _ _ _ _ _ named in
    value-or n (λ i. stands_single n signed a ta i || stands_single n signed b tb i)
    (λ i. joined_bit (cases_turn (has_sides n signed a) (has_sides n signed b) (g0 i)) (cases_turn (has_sides n signed a) (has_sides n signed b) (g1 i)) (g0 i false false false) (g1 i false false false))
    (Two Or (taint_below n j (operand_taint n signed (length a) 0)) (taint_below n k (operand_taint n signed (length b) 1)))
    (joined (sums_taint s0) (sums_taint s1) (sum_at s0 false false false) (sum_at s1 false false false)) vs ts inner
    (value-or n (stands_single n signed a ta) (stands_single n signed b tb) (taint_below n j (operand_taint n signed (length a) 0)) (taint_below n k (operand_taint n signed (length b) 1)) vs ts inner
    (value-taint_below n j (λ i. extended_bit signed i ta) (operand_taint n signed (length a) 0) vs ts inner (gives_taint n (length a) signed 0 vs ts e some_a inner))
    (value-taint_below n k (λ i. extended_bit signed i tb) (operand_taint n signed (length b) 1) vs ts inner (gives_taint n (length b) signed 1 vs ts f some_b inner)))
    (value-joined n _ _ (λ i. g0 i false false false) (λ i. g1 i false false false) (sums_taint s0) (sums_taint s1) (sum_at s0 false false false) (sum_at s1 false false false) vs ts inner
    (value-cases n (nat_lt j n) (nat_lt k n) (sum_at s0) g0 vs ts inner at0) (value-cases n (nat_lt j n) (nat_lt k n) (sum_at s1) g1 vs ts inner at1)
    (at0 false false false) (at1 false false false))

-- CO
pub value-alu_carry : (n : ℕ) (signed : Bool) (a ta b tb c tc d td : Word) → length ta ≡ length a → length tb ≡ length b → 1 ≤ length a → 1 ≤ length b → length c ≡ 1 → length tc ≡ 1 → length d ≡ 1 → length td ≡ 1
    → value_of (alu_carry_taint n signed (length a) (length b)) (four a b c d) (four ta tb tc td) [] ≡ word n (alu_carry_rule n signed a ta b tb c tc d td)
value-alu_carry n signed a ta b tb c tc d td e f some_a some_b one_c one_tc one_d one_td =
    let vs : List Word = four a b c d in
    let ts : List Word = four ta tb tc td in
    let inner : List Word = inner_words n signed (length a) (length b) vs ts in
    let named = inner_named n signed a ta b tb c tc d td e f some_a some_b one_c one_tc one_d one_td in
    let g0 : ℕ → Bool → Bool → Bool → Bool = alu_carries n signed a ta b tb c tc (at_bound false (bit d 0) (bit td 0)) in
    let g1 : ℕ → Bool → Bool → Bool → Bool = alu_carries n signed a ta b tb c tc (at_bound true (bit d 0) (bit td 0)) in
    let s0 : Sums = sums_named n n n false in
    let s1 : Sums = sums_named n n n true in
    let at0 = value-carries n false vs ts inner _ _ _ _ _ _ _ named in
    let at1 = value-carries n true vs ts inner _ _ _ _ _ _ _ named in
    value-joined n (λ i. xor (g0 i false false false) (g0 i true false false)) (λ i. xor (g1 i false false false) (g1 i true false false)) (λ i. g0 i false false false) (λ i. g1 i false false false)
    (Two Xor (carries_at s0 false) (carries_at s0 true)) (Two Xor (carries_at s1 false) (carries_at s1 true)) (carries_at s0 false) (carries_at s1 false) vs ts inner
    (value-xor n _ _ (carries_at s0 false) (carries_at s0 true) vs ts inner (at0 false) (at0 true))
    (value-xor n _ _ (carries_at s1 false) (carries_at s1 true) vs ts inner (at1 false) (at1 true))
    (at0 false) (at1 false)

-- X
pub value-alu_xor : (n : ℕ) (signed : Bool) (a ta b tb c tc d td : Word) → length ta ≡ length a → length tb ≡ length b → 1 ≤ length a → 1 ≤ length b → length td ≡ 1
    → value_of (alu_xor_taint n signed (length a) (length b)) (four a b c d) (four ta tb tc td) [] ≡ word n (alu_xor_rule signed ta tb td)
value-alu_xor n signed a ta b tb c tc d td e f some_a some_b one_td =
    let vs : List Word = four a b c d in
    let ts : List Word = four ta tb tc td in
    value-or n (λ i. extended_bit signed i ta || extended_bit signed i tb) (λ i. bit td 0) (Two Or (operand_taint n signed (length a) 0) (operand_taint n signed (length b) 1)) (repeated n (Taint 3)) vs ts []
    (value-or n (λ i. extended_bit signed i ta) (λ i. extended_bit signed i tb) (operand_taint n signed (length a) 0) (operand_taint n signed (length b) 1) vs ts []
    (gives_taint n (length a) signed 0 vs ts e some_a []) (gives_taint n (length b) signed 1 vs ts f some_b []))
    (value-repeated n (bit td 0) (Taint 3) vs ts [] (one_bit td one_td))
