-- $alu on numbers: what its formulas stand for, and the words and taints of its cell.
use Rattle.std.specs.Prelude.{ℕ, suc, ◌+◌, ◌%◌, ◌<◌, ◌≤◌, ◌≡◌, ◌^◌, nat_lt, Bool, true, false, not, ◌&&◌, ◌||◌, bit_or, bit_xor, List, [], ◌∷◌, map, length, if◌then◌else◌, refl}
use Rattle.std.specs.List.{range_with_len}
use Rattle.std.proofs.Common.{arith, sym, ap, ◌∙◌, subst}
use Rattle.std.proofs.lemmas.Nat.{pow_pos, xor_lt}
use Rattle.cif_defs.specs.Cells.{Cell, both_signed, meaning, number_of, words_by, y_width}
use Rattle.cif_defs.specs.Fitted.{IsFitted, operand_widths, row_width}
use Rattle.cif_defs.specs.Meanings.{alu_carry_word, alu_operand, alu_sum_word, alu_xor_word}
use Rattle.cif_defs.specs.Words.{Word, bit, bit_value, digit, extend, extended_bit, number, operand, word, word_of, xor}
use Rattle.cif_defs.specs.declared.kinds.Kind.TheVariants.{Alu}
use Rattle.cif_defs.specs.declared.kinds.Param.TheVariants.{AWidth, BWidth}
use Rattle.cif_defs.proofs.Numbers.{word-same}
use Rattle.cif_defs.proofs.Sums.{carry, sum_bit}
use Rattle.cif_defs.proofs.WordLaws.{bit-word, length-word}
use Rattle.cif_defs.proofs.WordNumbers.{extend-same, number-word_below}
use Rattle.cif_arith.specs.NumbersOfBits.{carries, inverted_where}
use Rattle.cif_arith.proofs.Meanings.{word_of-alu_co, word_of-alu_x, word_of-alu_y}
use Rattle.cif_term.specs.CellTaints.{AreTaintsOf, IsTaintOf, taint_word, taint_words}
use Rattle.cif_term.specs.Formulas.{Formula, value_of}
use Rattle.rule_arith.specs.AluFormulas.{alu_carry_taint, alu_sum_taint, alu_xor_taint}
use Rattle.rule_arith.specs.Bounds.{sign_start}
use Rattle.rule_arith.specs.SumFormulas.{of_pair}
use Rattle.rule_arith.proofs.AluCarries.{alu_carries, alu_carry_rule, carry_is, full_bound, same_side}
use Rattle.rule_arith.proofs.AluRules.{alu_sum_rule, alu_sums, alu_xor_rule}
use Rattle.rule_arith.proofs.AluTaints.{alu_cell, alu_taints}
use Rattle.rule_arith.proofs.AluValues.{value-alu_carry, value-alu_sum, value-alu_xor}
use Rattle.rule_arith.proofs.Limits.{at_bound, bound_word}
use Rattle.rule_arith.proofs.SumRules.{has_sides, stands_single, xor_none}
use Rattle.rule_arith.proofs.SumValues.{bound_at}
use Rattle.rule_arith.proofs.Turns.{cases_turn}
use Rattle.word_numbers.specs.HeldWords.{AreNarrow, words_held}
use Rattle.word_numbers.specs.declared.words.Words.{Words}
use Rattle.word_sums.specs.declared.alu.AluOperands.{AluOperands}
use Rattle.word_sums.specs.declared.bounds.Bounds.{Bounds}
use Rattle.word_sums.specs.declared.sums.Sums.{Sums}
use Rattle.word_sums.specs.declared.shape.Shape.{Shape}
use Rattle.word_sums.specs.declared.sums.Carry.{Carry}
use Rattle.word_sums.specs.declared.sums.Summand.{Summand}
use Rattle.word_sums.specs.AluForms.{IsAluFormOf}
use Rattle.word_sums.specs.AluNumbers.{AreAluOperands, IsAddend, IsShort, alu_carry_number, alu_sum_number, carries_number, full_number, greatest_bit, least_bit}
use Rattle.word_sums.specs.AluWords.{AreAluWords, alu_taint_of, alu_words}
use Rattle.word_sums.specs.BoundNumbers.{bounds_of}
use Rattle.word_numbers.specs.NarrowCells.{output_widths}
use Rattle.word_sums.specs.SumNumbers.{joined_number, single_taint, sum_number, sums_between, sums_number}
use Rattle.word_sums.proofs.HeldNumbers.{Holds, holds_number, holds_or, holds_same, holds_word, holds_xor, number_holds, own_bits, word_holds}
use Rattle.word_sums.proofs.SumLaws.{HoldsSummand, cases_hold, joined_holds, single_holds, sums_hold}

-- ---- summands

pub addend_is : (n m v t : ℕ) (signed inv : Bool) (x y : Summand) → word_of n x.value ≡ extend n signed (word_of m v) → word_of n x.taint ≡ extend n signed (word_of m t) → x.taint < 2 ^ n → x.start ≡ sign_start n signed m → x.start ≤ n
    → word_of n y.value ≡ word n (λ i. xor (digit x.value i) inv) → y.value < 2 ^ n → y.taint ≡ x.taint → y.start ≡ x.start → IsAddend n signed inv m v t y
addend_is n m v t signed inv x y value taint small start inside turned fits same_taint same_start =
    let own : Holds n x.value (λ i. extended_bit signed i (word_of m v)) = word_holds n x.value _ value in
    record {
      value = turned ∙ word-same n _ _ (λ i l. ap (λ b. xor b inv) (own.bits i l));
      value_fits = fits;
      taint = ap (word_of n) same_taint ∙ taint;
      taint_fits = (let e = same_taint in omega arith);
      start = same_start ∙ start;
      inside = (let e = same_start in omega arith);
    }

pub plain_addend : (n m v t : ℕ) (signed : Bool) (x : Summand) → word_of n x.value ≡ extend n signed (word_of m v) → x.value < 2 ^ n → word_of n x.taint ≡ extend n signed (word_of m t) → x.taint < 2 ^ n → x.start ≡ sign_start n signed m → x.start ≤ n → IsAddend n signed false m v t x
plain_addend n m v t signed x value fits taint small start inside = record { value = value ∙ word-same n _ _ (λ i l. xor_none _); value_fits = fits; taint = taint; taint_fits = small; start = start; inside = inside }

pub turned_word : (n x k : ℕ) (inv : Bool) → word_of n k ≡ word n (λ i. inv) → word_of n (bit_xor x k) ≡ word n (λ i. xor (digit x i) inv)
turned_word n x k inv e = holds_word n (bit_xor x k) _ (holds_xor (own_bits n x) (word_holds n k (λ i. inv) e))

pub short_addend : {n m v t : ℕ} {signed inv : Bool} {x : Summand} → IsAddend n signed inv m v t x → IsShort n x
short_addend h = record { value = h.value_fits; taint = h.taint_fits; start = h.inside }

addend_holds : {n m v t : ℕ} {signed inv : Bool} {x : Summand} → IsAddend n signed inv m v t x → HoldsSummand n x (λ i. xor (extended_bit signed i (word_of m v)) inv) (λ i. extended_bit signed i (word_of m t))
addend_holds {n = n} {x = x} h = record { value = word_holds n x.value _ h.value; taint = word_holds n x.taint _ h.taint }

-- ---- Y

carry_at : (c : Carry) (v t : ℕ) (upper : Bool) → c.least ≡ least_bit v t → c.greatest ≡ greatest_bit v t → (if upper then c.greatest else c.least) ≡ at_bound upper (bit (word_of 1 v) 0) (bit (word_of 1 t) 0)
carry_at c v t true e f = f
carry_at c v t false e f = e

sums_at : (s : Shape) (v t : Words) (x y : Summand) (c : Carry) (inv : Bool) → IsAddend s.y s.signed false s.a v.a t.a x → IsAddend s.y s.signed inv s.b v.b t.b y → c.least ≡ least_bit v.c t.c → c.greatest ≡ greatest_bit v.c t.c → (upper p q : Bool)
    → Holds s.y (sum_number (sums_between s.y x y c) upper p q) (λ i. alu_sums s.y s.signed (word_of s.a v.a) (word_of s.a t.a) (word_of s.b v.b) (word_of s.b t.b) (word_of 1 v.c) (word_of 1 t.c) inv i upper p q)
sums_at s v t x y c inv h k e f upper p q =
    let pf : ℕ → Bool = λ i. xor (extended_bit s.signed i (word_of s.a v.a)) false in
    let pt : ℕ → Bool = λ i. extended_bit s.signed i (word_of s.a t.a) in
    let pg : ℕ → Bool = λ i. xor (extended_bit s.signed i (word_of s.b v.b)) inv in
    let pu : ℕ → Bool = λ i. extended_bit s.signed i (word_of s.b t.b) in
    let starts : x.start ≡ sign_start s.y s.signed (length (word_of s.a v.a)) = h.start ∙ sym (ap (sign_start s.y s.signed) (length-word s.a _)) in
    let ends : y.start ≡ sign_start s.y s.signed (length (word_of s.b v.b)) = k.start ∙ sym (ap (sign_start s.y s.signed) (length-word s.b _)) in
    holds_same (sums_hold s.y x y c pf pt pg pu (addend_holds h) (addend_holds k) upper p q)
    (λ i l. ap (λ b. sum_bit b (bound_at s.y x.start pf pt upper p) (bound_at s.y y.start pg pu upper q) i) (carry_at c v.c t.c upper e f)
    ∙ ap (λ j. sum_bit (at_bound upper (bit (word_of 1 v.c) 0) (bit (word_of 1 t.c) 0)) (bound_at s.y j pf pt upper p) (bound_at s.y y.start pg pu upper q) i) starts
    ∙ ap (λ j. sum_bit (at_bound upper (bit (word_of 1 v.c) 0) (bit (word_of 1 t.c) 0)) (bound_word s.y s.signed false (word_of s.a v.a) (word_of s.a t.a) upper p) (bound_at s.y j pg pu upper q) i) ends)

sides_at : (n m v : ℕ) (signed : Bool) (x : Summand) → x.start ≡ sign_start n signed m → nat_lt x.start n ≡ has_sides n signed (word_of m v)
sides_at n m v signed x e = ap (λ k. nat_lt k n) (e ∙ sym (ap (sign_start n signed) (length-word m _)))

cases_at : (s : Shape) (v t : Words) (x y : Summand) (c : Carry) (inv : Bool) → IsAddend s.y s.signed false s.a v.a t.a x → IsAddend s.y s.signed inv s.b v.b t.b y → c.least ≡ least_bit v.c t.c → c.greatest ≡ greatest_bit v.c t.c
    → Holds s.y (sums_number (sums_between s.y x y c)) (λ i. cases_turn (has_sides s.y s.signed (word_of s.a v.a)) (has_sides s.y s.signed (word_of s.b v.b))
    (alu_sums s.y s.signed (word_of s.a v.a) (word_of s.a t.a) (word_of s.b v.b) (word_of s.b t.b) (word_of 1 v.c) (word_of 1 t.c) inv i))
cases_at s v t x y c inv h k e f =
    let g : ℕ → Bool → Bool → Bool → Bool = alu_sums s.y s.signed (word_of s.a v.a) (word_of s.a t.a) (word_of s.b v.b) (word_of s.b t.b) (word_of 1 v.c) (word_of 1 t.c) inv in
    holds_same (cases_hold s.y (nat_lt x.start s.y) (nat_lt y.start s.y) (sum_number (sums_between s.y x y c)) g (sums_at s v t x y c inv h k e f))
    (λ i l. ap (λ b. cases_turn b (nat_lt y.start s.y) (g i)) (sides_at s.y s.a v.a s.signed x h.start) ∙ ap (λ b. cases_turn (has_sides s.y s.signed (word_of s.a v.a)) b (g i)) (sides_at s.y s.b v.b s.signed y k.start))

single_at : (s : Shape) (v t : Words) (x y : Summand) (inv : Bool) → IsAddend s.y s.signed false s.a v.a t.a x → IsAddend s.y s.signed inv s.b v.b t.b y
    → Holds s.y (single_taint s.y x y) (λ i. stands_single s.y s.signed (word_of s.a v.a) (word_of s.a t.a) i || stands_single s.y s.signed (word_of s.b v.b) (word_of s.b t.b) i)
single_at s v t x y inv h k =
    holds_same (single_holds s.y x y _ _ _ _ (addend_holds h) (addend_holds k))
    (λ i l. ap (λ j. (nat_lt i j && extended_bit s.signed i (word_of s.a t.a)) || (nat_lt i y.start && extended_bit s.signed i (word_of s.b t.b))) (h.start ∙ sym (ap (sign_start s.y s.signed) (length-word s.a _)))
    ∙ ap (λ j. stands_single s.y s.signed (word_of s.a v.a) (word_of s.a t.a) i || (nat_lt i j && extended_bit s.signed i (word_of s.b t.b))) (k.start ∙ sym (ap (sign_start s.y s.signed) (length-word s.b _))))

by_lengths : (f : ℕ → Bool → ℕ → ℕ → Formula) (s : Shape) (v t : Words) → value_of (f s.y s.signed (length (word_of s.a v.a)) (length (word_of s.b v.b))) (alu_words s v) (alu_words s t) [] ≡ alu_taint_of f s v t
unfolding alu_taint_of
by_lengths f s v t =
    ap (λ n. value_of (f s.y s.signed n (length (word_of s.b v.b))) (alu_words s v) (alu_words s t) []) (length-word s.a _) ∙ ap (λ n. value_of (f s.y s.signed s.a n) (alu_words s v) (alu_words s t) []) (length-word s.b _)

same_length : (n x y : ℕ) → length (word_of n x) ≡ length (word_of n y)
same_length n x y = length-word n _ ∙ sym (length-word n _)

some_length : (n x : ℕ) → 1 ≤ n → 1 ≤ length (word_of n x)
some_length n x h = let l : length (word_of n x) ≡ n = length-word n _ in omega arith

pub alu_sum_is : (s : Shape) (v t : Words) (o : AluOperands) (r : ℕ) → 1 ≤ s.a → 1 ≤ s.b → AreAluOperands s v t o → r ≡ alu_sum_number s.y o → word_of s.y r ≡ alu_taint_of alu_sum_taint s v t
alu_sum_is s v t o r some_a some_b h e =
    ap (word_of s.y) e ∙ holds_word s.y (alu_sum_number s.y o) (alu_sum_rule s.y s.signed (word_of s.a v.a) (word_of s.a t.a) (word_of s.b v.b) (word_of s.b t.b) (word_of 1 v.c) (word_of 1 t.c) (word_of 1 v.d) (word_of 1 t.d))
    (holds_or (single_at s v t o.first o.least _ h.first h.least)
    (joined_holds (cases_at s v t o.first o.least o.carry _ h.first h.least h.least_carry h.greatest_carry) (cases_at s v t o.first o.greatest o.carry _ h.first h.greatest h.least_carry h.greatest_carry)
    (sums_at s v t o.first o.least o.carry _ h.first h.least h.least_carry h.greatest_carry false false false) (sums_at s v t o.first o.greatest o.carry _ h.first h.greatest h.least_carry h.greatest_carry false false false)))
    ∙ sym (value-alu_sum s.y s.signed (word_of s.a v.a) (word_of s.a t.a) (word_of s.b v.b) (word_of s.b t.b) (word_of 1 v.c) (word_of 1 t.c) (word_of 1 v.d) (word_of 1 t.d)
    (same_length s.a t.a v.a) (same_length s.b t.b v.b) (some_length s.a v.a some_a) (some_length s.b v.b some_b) refl refl refl refl)
    ∙ by_lengths alu_sum_taint s v t

-- ---- X

pub alu_xor_is : (s : Shape) (v t : Words) (o : AluOperands) (r : ℕ) (d : Bool) → 1 ≤ s.a → 1 ≤ s.b → AreAluOperands s v t o → d ≡ digit t.d 0 → word_of s.y r ≡ word s.y (λ i. (digit o.first.taint i || digit o.least.taint i) || d)
    → word_of s.y r ≡ alu_taint_of alu_xor_taint s v t
alu_xor_is s v t o r d some_a some_b h tainted e =
    let first : HoldsSummand s.y o.first (λ i. xor (extended_bit s.signed i (word_of s.a v.a)) false) (λ i. extended_bit s.signed i (word_of s.a t.a)) = addend_holds h.first in
    let second : HoldsSummand s.y o.least (λ i. xor (extended_bit s.signed i (word_of s.b v.b)) (least_bit v.d t.d)) (λ i. extended_bit s.signed i (word_of s.b t.b)) = addend_holds h.least in
    let x : Holds s.y o.first.taint (λ i. extended_bit s.signed i (word_of s.a t.a)) = first.taint in
    let y : Holds s.y o.least.taint (λ i. extended_bit s.signed i (word_of s.b t.b)) = second.taint in
    e ∙ word-same s.y _ (alu_xor_rule s.signed (word_of s.a t.a) (word_of s.b t.b) (word_of 1 t.d)) (λ i l.
    ap (λ b. (b || digit o.least.taint i) || d) (x.bits i l) ∙ ap (λ b. (extended_bit s.signed i (word_of s.a t.a) || b) || d) (y.bits i l)
    ∙ ap (λ b. (extended_bit s.signed i (word_of s.a t.a) || extended_bit s.signed i (word_of s.b t.b)) || b) tainted)
    ∙ sym (value-alu_xor s.y s.signed (word_of s.a v.a) (word_of s.a t.a) (word_of s.b v.b) (word_of s.b t.b) (word_of 1 v.c) (word_of 1 t.c) (word_of 1 v.d) (word_of 1 t.d)
    (same_length s.a t.a v.a) (same_length s.b t.b v.b) (some_length s.a v.a some_a) (some_length s.b v.b some_b) refl)
    ∙ by_lengths alu_xor_taint s v t

-- ---- CO

whole : (n : ℕ) (p : ℕ → Bool) → alu_operand n false false (word n p) ≡ word n p
whole n p = word-same n _ _ (λ i h. sym (xor_none (bit (word n p) i)) ∙ bit-word n p i false h)

extended_whole : (n x : ℕ) (p : ℕ → Bool) → x < 2 ^ n → Holds n x p → x ≡ number (extend n false (word n p))
extended_whole n x p l h = holds_number n x p l h ∙ sym (ap number (extend-same n false (word n p) (length-word n p)))

carries_hold : (n x y : ℕ) (c : Bool) (p q : ℕ → Bool) → x < 2 ^ n → y < 2 ^ n → Holds n x p → Holds n y q → Holds n (carries n x y c) (λ i. carry c (word n p) (word n q) (suc i))
carries_hold n x y c p q l k h g =
    let same : word_of n (carries n x y c) ≡ alu_carry_word n false c false (word n p) (word n q) =
    word_of-alu_co n false c false (word n p) (word n q) x y (carries n x y c) (extended_whole n x p l h) (extended_whole n y q k g) refl in
    record {
      bits = λ i m. sym (bit-word n (digit (carries n x y c)) i false m) ∙ ap (λ (w : Word). bit w i) same ∙ carry_is n false c false (word n p) (word n q) i m
          ∙ ap (λ (w : Word). carry c w (alu_operand n false false (word n q)) (suc i)) (whole n p) ∙ ap (λ (w : Word). carry c (word n p) w (suc i)) (whole n q);
    }

full_bit : (n : ℕ) (x : Summand) (p q : ℕ → Bool) (upper : Bool) → HoldsSummand n x p q → Holds n (full_number n x upper) (λ i. at_bound upper (p i) (q i))
full_bit n x p q true h =
    holds_same (number_holds n (full_number n x true) (λ i. digit x.value i || digit x.taint i) refl)
    (λ i l. ap (λ b. b || digit x.taint i) (let v = h.value in v.bits i l) ∙ ap (λ b. p i || b) (let t = h.taint in t.bits i l))
full_bit n x p q false h =
    holds_same (number_holds n (full_number n x false) (λ i. digit x.value i && not (digit x.taint i)) refl)
    (λ i l. ap (λ b. b && not (digit x.taint i)) (let v = h.value in v.bits i l) ∙ ap (λ b. p i && not b) (let t = h.taint in t.bits i l))

full_fits : (n : ℕ) (x : Summand) (upper : Bool) → full_number n x upper < 2 ^ n
full_fits n x true = number-word_below n _
full_fits n x false = number-word_below n _

full_word : (n : ℕ) (signed inv : Bool) (v t : Word) (upper : Bool) → word n (λ i. at_bound upper (xor (extended_bit signed i v) inv) (extended_bit signed i t)) ≡ full_bound n signed inv v t upper
full_word n signed inv v t upper = word-same n _ _ (λ i l. sym (ap (λ s. at_bound s (xor (extended_bit signed i v) inv) (extended_bit signed i t)) (same_side n i upper)))

carries_at : (s : Shape) (v t : Words) (x y : Summand) (c : Carry) (inv : Bool) → IsAddend s.y s.signed false s.a v.a t.a x → IsAddend s.y s.signed inv s.b v.b t.b y → c.least ≡ least_bit v.c t.c → c.greatest ≡ greatest_bit v.c t.c → (upper : Bool)
    → Holds s.y (carries_number s.y x y c upper) (λ i. alu_carries s.y s.signed (word_of s.a v.a) (word_of s.a t.a) (word_of s.b v.b) (word_of s.b t.b) (word_of 1 v.c) (word_of 1 t.c) inv i upper false false)
carries_at s v t x y c inv h k e f upper =
    let a : Word = word_of s.a v.a in let ta : Word = word_of s.a t.a in let b : Word = word_of s.b v.b in let tb : Word = word_of s.b t.b in
    holds_same (carries_hold s.y (full_number s.y x upper) (full_number s.y y upper) (if upper then c.greatest else c.least)
    (λ i. at_bound upper (xor (extended_bit s.signed i a) false) (extended_bit s.signed i ta)) (λ i. at_bound upper (xor (extended_bit s.signed i b) inv) (extended_bit s.signed i tb))
    (full_fits s.y x upper) (full_fits s.y y upper) (full_bit s.y x _ _ upper (addend_holds h)) (full_bit s.y y _ _ upper (addend_holds k)))
    (λ i l. ap (λ z. carry z (word s.y (λ j. at_bound upper (xor (extended_bit s.signed j a) false) (extended_bit s.signed j ta))) (word s.y (λ j. at_bound upper (xor (extended_bit s.signed j b) inv) (extended_bit s.signed j tb))) (suc i)) (carry_at c v.c t.c upper e f)
    ∙ ap (λ (w : Word). carry (at_bound upper (bit (word_of 1 v.c) 0) (bit (word_of 1 t.c) 0)) w (word s.y (λ j. at_bound upper (xor (extended_bit s.signed j b) inv) (extended_bit s.signed j tb))) (suc i)) (full_word s.y s.signed false a ta upper)
    ∙ ap (λ (w : Word). carry (at_bound upper (bit (word_of 1 v.c) 0) (bit (word_of 1 t.c) 0)) (full_bound s.y s.signed false a ta upper) w (suc i)) (full_word s.y s.signed inv b tb upper))

pub alu_carry_is : (s : Shape) (v t : Words) (o : AluOperands) (r : ℕ) → 1 ≤ s.a → 1 ≤ s.b → AreAluOperands s v t o → r ≡ alu_carry_number s.y o → word_of s.y r ≡ alu_taint_of alu_carry_taint s v t
alu_carry_is s v t o r some_a some_b h e =
    let low = carries_at s v t o.first o.least o.carry (least_bit v.d t.d) h.first h.least h.least_carry h.greatest_carry in
    let high = carries_at s v t o.first o.greatest o.carry (greatest_bit v.d t.d) h.first h.greatest h.least_carry h.greatest_carry in
    ap (word_of s.y) e ∙ holds_word s.y (alu_carry_number s.y o) (alu_carry_rule s.y s.signed (word_of s.a v.a) (word_of s.a t.a) (word_of s.b v.b) (word_of s.b t.b) (word_of 1 v.c) (word_of 1 t.c) (word_of 1 v.d) (word_of 1 t.d))
    (joined_holds (holds_xor (low false) (low true)) (holds_xor (high false) (high true)) (low false) (high false))
    ∙ sym (value-alu_carry s.y s.signed (word_of s.a v.a) (word_of s.a t.a) (word_of s.b v.b) (word_of s.b t.b) (word_of 1 v.c) (word_of 1 t.c) (word_of 1 v.d) (word_of 1 t.d)
    (same_length s.a t.a v.a) (same_length s.b t.b v.b) (some_length s.a v.a some_a) (some_length s.b v.b some_b) refl refl refl refl)
    ∙ by_lengths alu_carry_taint s v t

-- ---- cells

held_four : (c : Cell) (s : Shape) (w : Words) → operand_widths c ≡ number_of c AWidth ∷ number_of c BWidth ∷ 1 ∷ 1 ∷ [] → IsAluFormOf s c → alu_words s w ≡ words_held (operand_widths c) w
held_four c s w widths i =
    ap (λ n. word_of n w.a ∷ word_of s.b w.b ∷ word_of 1 w.c ∷ word_of 1 w.d ∷ []) i.a ∙ ap (λ n. word_of (number_of c AWidth) w.a ∷ word_of n w.b ∷ word_of 1 w.c ∷ word_of 1 w.d ∷ []) i.b
    ∙ sym (ap (λ ns. words_held ns w) widths)

-- the words of three outputs of n bits
abbrev three_words : ℕ → ℕ → ℕ → ℕ → List Word
three_words n x y z = word_of n x ∷ word_of n y ∷ word_of n z ∷ []

held_three : (c : Cell) (s : Shape) (x y z : ℕ) → IsAluFormOf s c → words_held (output_widths c) (record { a = x; b = y; c = z; d = 0 }) ≡ three_words s.y x y z
held_three c s x y z i =
    let h = alu_cell c i.fitted i.kind in
    ap (λ rs. words_held (map (row_width c) rs) (record { a = x; b = y; c = z; d = 0 })) h.three ∙ sym (ap (λ n. three_words n x y z) i.y)

-- what the kind gives
abbrev alu_given : ℕ → Bool → List Word → List Word
alu_given n signed us =
    alu_xor_word n signed (bit (operand us 3) 0) (operand us 0) (operand us 1)
    ∷ alu_sum_word n signed (bit (operand us 2) 0) (bit (operand us 3) 0) (operand us 0) (operand us 1)
    ∷ alu_carry_word n signed (bit (operand us 2) 0) (bit (operand us 3) 0) (operand us 0) (operand us 1) ∷ []

given_is : (c : Cell) (us : List Word) → words_by Alu c us ≡ alu_given (y_width c) (both_signed c) us
unfolding words_by
given_is c us = refl

three_same : {x y z u v w : Word} → x ≡ u → y ≡ v → z ≡ w → x ∷ y ∷ z ∷ [] ≡ u ∷ v ∷ w ∷ []
three_same e f g = cc

pub alu_value_is : (c : Cell) (s : Shape) (w : Words) (a b x y z : ℕ) (ci bi : Bool) → IsAluFormOf s c → a ≡ number (extend s.y s.signed (word_of s.a w.a)) → b ≡ number (extend s.y s.signed (word_of s.b w.b))
    → ci ≡ digit w.c 0 → bi ≡ digit w.d 0 → x ≡ bit_xor a (inverted_where bi s.y b) → y ≡ (a + inverted_where bi s.y b + bit_value ci) % 2 ^ s.y → z ≡ carries s.y a (inverted_where bi s.y b) ci
    → words_held (output_widths c) (record { a = x; b = y; c = z; d = 0 }) ≡ meaning c (words_held (operand_widths c) w)
alu_value_is c s w a b x y z ci bi i ea eb ec ed ex ey ez =
    let u : Word = word_of s.a w.a in
    let v : Word = word_of s.b w.b in
    let h = alu_cell c i.fitted i.kind in
    held_three c s x y z i
    ∙ three_same (word_of-alu_x s.y s.signed bi u v a b x ea eb ex) (word_of-alu_y s.y s.signed ci bi u v a b y ea eb ey) (word_of-alu_co s.y s.signed ci bi u v a b z ea eb ez)
    ∙ ap (λ t. alu_xor_word s.y s.signed bi u v ∷ alu_sum_word s.y s.signed t bi u v ∷ alu_carry_word s.y s.signed t bi u v ∷ []) ec
    ∙ ap (λ t. alu_xor_word s.y s.signed t u v ∷ alu_sum_word s.y s.signed (digit w.c 0) t u v ∷ alu_carry_word s.y s.signed (digit w.c 0) t u v ∷ []) ed
    ∙ ap (λ n. alu_given n s.signed (alu_words s w)) i.y ∙ ap (λ t. alu_given (y_width c) t (alu_words s w)) i.signed
    ∙ sym (given_is c (alu_words s w)) ∙ sym (ap (λ k. words_by k c (alu_words s w)) i.kind) ∙ ap (words_by c.kind c) (held_four c s w h.widths i)

fits_four : (c : Cell) (s : Shape) (w : Words) → IsAluFormOf s c → map length (alu_words s w) ≡ operand_widths c
fits_four c s w i =
    let h = alu_cell c i.fitted i.kind in
    ap (λ n. n ∷ length (word_of s.b w.b) ∷ 1 ∷ 1 ∷ []) (length-word s.a _ ∙ i.a) ∙ ap (λ n. number_of c AWidth ∷ n ∷ 1 ∷ 1 ∷ []) (length-word s.b _ ∙ i.b) ∙ sym h.widths

formula_is : (g : ℕ → Bool → ℕ → ℕ → Formula) (c : Cell) (s : Shape) (v t : Words) → IsAluFormOf s c → alu_taint_of g s v t ≡ value_of (of_pair g c) (alu_words s v) (alu_words s t) []
unfolding alu_taint_of
formula_is g c s v t i =
    let vs : List Word = alu_words s v in
    let ts : List Word = alu_words s t in
    ap (λ n. value_of (g n s.signed s.a s.b) vs ts []) i.y ∙ ap (λ b. value_of (g (y_width c) b s.a s.b) vs ts []) i.signed
    ∙ ap (λ n. value_of (g (y_width c) (both_signed c) n s.b) vs ts []) i.a ∙ ap (λ n. value_of (g (y_width c) (both_signed c) (number_of c AWidth) n) vs ts []) i.b

output_is : (g : ℕ → Bool → ℕ → ℕ → Formula) (c : Cell) (s : Shape) (v t : Words) (p : ℕ) → IsAluFormOf s c → IsTaintOf c p (of_pair g c) → alu_taint_of g s v t ≡ taint_word c (alu_words s v) (alu_words s t) p
output_is g c s v t p i is = formula_is g c s v t i ∙ is.means (alu_words s v) (alu_words s t) (fits_four c s v i) (fits_four c s t i)

three_taints : (c : Cell) (s : Shape) (vs ts : List Word) → IsAluFormOf s c → taint_words c vs ts ≡ taint_word c vs ts 0 ∷ taint_word c vs ts 1 ∷ taint_word c vs ts 2 ∷ []
three_taints c s vs ts i = let h = alu_cell c i.fitted i.kind in ap (λ rs. map (taint_word c vs ts) (range_with_len 0 (length rs))) h.three

pub alu_taint_means : (c : Cell) (s : Shape) (v t : Words) (x y z : ℕ) → IsAluFormOf s c → word_of s.y x ≡ alu_taint_of alu_xor_taint s v t → word_of s.y y ≡ alu_taint_of alu_sum_taint s v t → word_of s.y z ≡ alu_taint_of alu_carry_taint s v t
    → words_held (output_widths c) (record { a = x; b = y; c = z; d = 0 }) ≡ taint_words c (words_held (operand_widths c) v) (words_held (operand_widths c) t)
alu_taint_means c s v t x y z i ex ey ez =
    let h = alu_cell c i.fitted i.kind in
    let all : AreTaintsOf c (of_pair alu_xor_taint c ∷ of_pair alu_sum_taint c ∷ of_pair alu_carry_taint c ∷ []) = alu_taints c i.fitted i.kind in
    let first : IsTaintOf c 0 (of_pair alu_xor_taint c) = all.each 0 (omega arith) in
    let second : IsTaintOf c 1 (of_pair alu_sum_taint c) = all.each 1 (omega arith) in
    let third : IsTaintOf c 2 (of_pair alu_carry_taint c) = all.each 2 (omega arith) in
    held_three c s x y z i
    ∙ three_same (ex ∙ output_is alu_xor_taint c s v t 0 i first) (ey ∙ output_is alu_sum_taint c s v t 1 i second) (ez ∙ output_is alu_carry_taint c s v t 2 i third)
    ∙ sym (three_taints c s (alu_words s v) (alu_words s t) i)
    ∙ ap (λ us. taint_words c us (alu_words s t)) (held_four c s v h.widths i) ∙ ap (λ us. taint_words c (words_held (operand_widths c) v) us) (held_four c s t h.widths i)

-- ---- what the code computes

pub bound_fits : (n v t : ℕ) (b : Bounds) (r : ℕ) (upper : Bool) → b ≡ bounds_of n v t → r ≡ (if upper then b.greatest else b.least) → r < 2 ^ n
bound_fits n v t b r true e f =
    let g : b.greatest ≡ (bounds_of n v t).greatest = ap (λ (x : Bounds). x.greatest) e in
    let l : (bounds_of n v t).greatest < 2 ^ n = number-word_below n _ in
    omega arith
bound_fits n v t b r false e f =
    let g : b.least ≡ (bounds_of n v t).least = ap (λ (x : Bounds). x.least) e in
    let l : (bounds_of n v t).least < 2 ^ n = number-word_below n _ in
    omega arith

pub carries_fit : (n a b : ℕ) (c : Bool) (r : ℕ) → r ≡ carries n a b c → r < 2 ^ n
carries_fit n a b c r e = let l : carries n a b c < 2 ^ n = number-word_below n _ in omega arith

pub sum_number_is : (n : ℕ) (o : AluOperands) (a b : Sums) (single t0 t1 v0 v1 j : ℕ) → a ≡ sums_between n o.first o.least o.carry → b ≡ sums_between n o.first o.greatest o.carry → single ≡ single_taint n o.first o.least
    → t0 ≡ sums_number a → t1 ≡ sums_number b → v0 ≡ sum_number a false false false → v1 ≡ sum_number b false false false → j ≡ joined_number t0 t1 v0 v1 → bit_or single j ≡ alu_sum_number n o
sum_number_is n o a b single t0 t1 v0 v1 j ea eb es e0 e1 f0 f1 ej =
    let s0 : Sums = sums_between n o.first o.least o.carry in
    let s1 : Sums = sums_between n o.first o.greatest o.carry in
    ap (λ x. bit_or x j) es ∙ ap (bit_or (single_taint n o.first o.least))
    (ej ∙ ap (λ x. joined_number x t1 v0 v1) (e0 ∙ ap sums_number ea) ∙ ap (λ x. joined_number (sums_number s0) x v0 v1) (e1 ∙ ap sums_number eb)
    ∙ ap (λ x. joined_number (sums_number s0) (sums_number s1) x v1) (f0 ∙ ap (λ (s : Sums). sum_number s false false false) ea)
    ∙ ap (λ x. joined_number (sums_number s0) (sums_number s1) (sum_number s0 false false false) x) (f1 ∙ ap (λ (s : Sums). sum_number s false false false) eb))

pub fits_between : (n r : ℕ) (a : Sums) (x y : Summand) (c : Carry) → a ≡ sums_between n x y c → r < 2 ^ a.width → r < 2 ^ n
fits_between n r a x y c e h = subst (λ k. r < 2 ^ k) (ap (λ (s : Sums). s.width) e) h

pub xor_word_is : (n f l k : ℕ) (d : Bool) → word_of n k ≡ word n (λ i. d) → word_of n (bit_or (bit_or f l) k) ≡ word n (λ i. (digit f i || digit l i) || d)
xor_word_is n f l k d e = holds_word n (bit_or (bit_or f l) k) _ (holds_or (holds_or (own_bits n f) (own_bits n l)) (word_holds n k (λ i. d) e))

pub narrow_three : (c : Cell) (s : Shape) (w : Words) (x y z : ℕ) → IsAluFormOf s c → w ≡ record { a = x; b = y; c = z; d = 0 } → x < 2 ^ s.y → y < 2 ^ s.y → z < 2 ^ s.y → AreNarrow (output_widths c) w
narrow_three c s w x y z i e hx hy hz =
    let h = alu_cell c i.fitted i.kind in
    let widths : output_widths c ≡ s.y ∷ s.y ∷ s.y ∷ [] = ap (map (row_width c)) h.three ∙ sym (ap (λ n. n ∷ n ∷ n ∷ []) i.y) in
    let own : AreNarrow (s.y ∷ s.y ∷ s.y ∷ []) (record { a = x; b = y; c = z; d = 0 }) = record { a = hx; b = hy; c = hz; d = pow_pos 0 } in
    subst (λ (u : Words). AreNarrow (output_widths c) u) (sym e) (subst (λ ns. AreNarrow ns (record { a = x; b = y; c = z; d = 0 })) (sym widths) own)

-- the widths of a cell
pub record HasAluWidths (c : Cell) : Type 0 where
  pub some_a : 1 ≤ number_of c AWidth
  pub some_b : 1 ≤ number_of c BWidth
  pub some_y : 1 ≤ y_width c
  pub few_a : number_of c AWidth ≤ 128
  pub few_b : number_of c BWidth ≤ 128
  pub few_y : y_width c ≤ 128

pub alu_widths : (c : Cell) → c.kind ≡ Alu → IsFitted c → HasAluWidths c
alu_widths c e f = let h = alu_cell c f e in record { some_a = h.some_a; some_b = h.some_b; some_y = h.some_y; few_a = h.few_a; few_b = h.few_b; few_y = h.few_y }

inverted_fits : (n b : ℕ) (invert : Bool) → b < 2 ^ n → inverted_where invert n b < 2 ^ n
inverted_fits n b true h = omega arith
inverted_fits n b false h = h

pub alu_value_fits : (n a b x : ℕ) (invert : Bool) → a < 2 ^ n → b < 2 ^ n → x ≡ bit_xor a (inverted_where invert n b) → x < 2 ^ n
alu_value_fits n a b x invert h k e = subst (λ y. y < 2 ^ n) (sym e) (xor_lt n a (inverted_where invert n b) h (inverted_fits n b invert k))

-- numbers of the widths of a cell's operands are those of its form
pub held_by_alu : (s : Shape) (c : Cell) (w : Words) → IsAluFormOf s c → AreNarrow (operand_widths c) w → AreAluWords s w
held_by_alu s c w i h =
    let u = alu_cell c i.fitted i.kind in
    let own : AreNarrow (number_of c AWidth ∷ number_of c BWidth ∷ 1 ∷ 1 ∷ []) w = subst (λ ns. AreNarrow ns w) u.widths h in
    record { a = subst (λ k. w.a < 2 ^ k) (sym i.a) own.a; b = subst (λ k. w.b < 2 ^ k) (sym i.b) own.b; c = own.c; d = own.d }
