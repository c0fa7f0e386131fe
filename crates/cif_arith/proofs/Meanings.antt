-- The words that cells give, from the numbers that the calls answer. In each law u and v are operand words, a and b the
-- numbers of both when extended, and r is what the call answers; a division or a comparison is of any width m that
-- holds both words, and its answer may be cut to n bits.
use Rattle.std.specs.Prelude.{ℕ, zero, suc, ◌+◌, ◌-◌, ◌*◌, ◌/◌, ◌%◌, ◌^◌, ◌<◌, ◌≤◌, ◌≡◌, nat_le, Bool, true, false, not, ◌&&◌, length, bit_xor, ℤ, pos, neg_ℤ, ◌-ℤ◌, if◌then◌else◌, int_div, int_lt, int_le, refl}
use Rattle.std.specs.Ordering.{int_eq}
use Rattle.std.proofs.Common.{arith, sym, ap, ◌∙◌}
use Rattle.std.proofs.Math.Nat.{div-le_self, mod-eq_of_lt}
use Rattle.std.proofs.lemmas.Bool.Decides.{nat_tests}
use Rattle.cif_defs.specs.Meanings.{add_word, alu_carry_word, alu_operand, alu_sum_word, alu_xor_word, compared, divided, mul_word, neg_word, sub_word}
use Rattle.cif_defs.specs.Words.{Word, bit, bit_value, digit, extend, extended_bit, int_number, int_word_of, number, word, word_of, xor}
use Rattle.cif_defs.proofs.WordLaws.{bit-word, length-word}
use Rattle.cif_defs.proofs.Numbers.{number_complement, word-same}
use Rattle.cif_defs.proofs.WordNumbers.{compared-numbers, compared_le, digit-number, int_number-extend, number-word_low, word_of-mod, word_of-number}
use Rattle.cif_arith.specs.NumbersOfBits.{carries, carry_out, division, integer_of, inverted_where, residue}
use Rattle.cif_arith.proofs.Carries.{digit-xor}
use Rattle.cif_arith.proofs.Residues.{residue-mod}

-- ---- sums, differences and products

pub word_of-add : (n : ℕ) (signed : Bool) (u v : Word) (a b r : ℕ) → a ≡ number (extend n signed u) → b ≡ number (extend n signed v)
    → r ≡ (a + b) % 2 ^ n → word_of n r ≡ add_word n signed u v
word_of-add n signed u v a b r e f h =
    ap (word_of n) h ∙ word_of-mod n n (a + b) (omega arith) ∙ ap (λ x. word_of n (x + b)) e ∙ ap (λ y. word_of n (number (extend n signed u) + y)) f

pub word_of-sub : (n : ℕ) (signed : Bool) (u v : Word) (a b r : ℕ) → a ≡ number (extend n signed u) → b ≡ number (extend n signed v)
    → r ≡ residue n (pos a -ℤ pos b) → word_of n r ≡ sub_word n signed u v
word_of-sub n signed u v a b r e f h =
    ap (word_of n) h ∙ ap (λ x. int_word_of n (pos x -ℤ pos b)) e ∙ ap (λ y. int_word_of n (pos (number (extend n signed u)) -ℤ pos y)) f

pub word_of-neg : (n : ℕ) (signed : Bool) (u : Word) (a r : ℕ) → a ≡ number (extend n signed u) → r ≡ residue n (neg_ℤ (pos a)) → word_of n r ≡ neg_word n signed u
word_of-neg n signed u a r e h = ap (word_of n) h ∙ ap (λ x. int_word_of n (neg_ℤ (pos x))) e

pub word_of-mul : (n : ℕ) (signed : Bool) (u v : Word) (a b r : ℕ) → a ≡ number (extend n signed u) → b ≡ number (extend n signed v)
    → r ≡ (a * b) % 2 ^ n → word_of n r ≡ mul_word n signed u v
word_of-mul n signed u v a b r e f h =
    ap (word_of n) h ∙ word_of-mod n n (a * b) (omega arith) ∙ ap (λ x. word_of n (x * b)) e ∙ ap (λ y. word_of n (number (extend n signed u) * y)) f

-- ---- divisions and comparisons

-- the integer of a word, from the number of its extension
pub integer_of-number : (m : ℕ) (signed : Bool) (w : Word) (x : ℕ) → length w ≤ m → x ≡ number (extend m signed w) → integer_of m signed x ≡ int_number signed w
integer_of-number m signed w x h e =
    ap (integer_of m signed) e
    ∙ ap (λ b. pos (number (extend m signed w)) -ℤ pos (if signed && b then 2 ^ m else 0)) (digit-number (extend m signed w) (m - 1))
    ∙ sym (ap (λ k. pos (number (extend m signed w)) -ℤ pos (if signed && bit (extend m signed w) (k - 1) then 2 ^ k else 0)) (length-word m (λ i. extended_bit signed i w)))
    ∙ int_number-extend m signed w h

-- for div_word, mod_word, divfloor_word and modfloor_word, where f is int_div, int_rem, floor_div and floor_rem
pub word_of-division : (f : ℤ → ℤ → ℤ) (m n : ℕ) (signed : Bool) (u v : Word) (a b r : ℕ) → length u ≤ m → length v ≤ m → n ≤ m
    → a ≡ number (extend m signed u) → b ≡ number (extend m signed v) → r ≡ division f m signed a b → word_of n r ≡ divided f n signed u v
word_of-division f m n signed u v a b r u_fits v_fits h e g k =
    let by_numbers : ℤ → ℤ → ℤ = λ x y. if int_eq y (pos 0) then pos 0 else f x y in
    ap (word_of n) k ∙ sym (word_of-mod n n (division f m signed a b) (omega arith))
    ∙ ap (word_of n) (residue-mod m n (by_numbers (integer_of m signed a) (integer_of m signed b)) h)
    ∙ ap (λ x. int_word_of n (by_numbers x (integer_of m signed b))) (integer_of-number m signed u a u_fits e)
    ∙ ap (λ y. int_word_of n (by_numbers (int_number signed u) y)) (integer_of-number m signed v b v_fits g)

pub compared-less : (m : ℕ) (signed : Bool) (u v : Word) (a b : ℕ) (r : Bool) → length u ≤ m → length v ≤ m
    → a ≡ number (extend m signed u) → b ≡ number (extend m signed v) → r ≡ int_lt (integer_of m signed a) (integer_of m signed b) → r ≡ compared int_lt signed u v
compared-less m signed u v a b r u_fits v_fits e f h =
    h ∙ ap (λ x. int_lt x (integer_of m signed b)) (integer_of-number m signed u a u_fits e) ∙ ap (λ y. int_lt (int_number signed u) y) (integer_of-number m signed v b v_fits f)
    ∙ sym (compared-numbers int_lt signed u v)

-- at most: the call with its operands exchanged, complemented
pub compared-not_less : (m : ℕ) (signed : Bool) (u v : Word) (a b : ℕ) (r : Bool) → length u ≤ m → length v ≤ m
    → a ≡ number (extend m signed u) → b ≡ number (extend m signed v) → r ≡ int_lt (integer_of m signed b) (integer_of m signed a) → not r ≡ compared int_le signed u v
compared-not_less m signed u v a b r u_fits v_fits e f h = ap not (compared-less m signed v u b a r v_fits u_fits f e h) ∙ sym (compared_le signed u v)

-- without signs a quotient needs no more than the two numbers
unsigned : (n x : ℕ) → integer_of n false x ≡ pos x
unsigned n x = ap pos (omega arith)

some_divisor : (b : ℕ) → int_eq (pos (suc b)) (pos 0) ≡ false
some_divisor b = grind (arith, nat_tests)

pub division-unsigned : (n a b : ℕ) → a < 2 ^ n → 0 < b → division int_div n false a b ≡ a / b
division-unsigned n a zero h k = absurd (omega arith)
division-unsigned n a (suc b) h k =
    let by_numbers : ℤ → ℤ → ℤ = λ x y. if int_eq y (pos 0) then pos 0 else int_div x y in
    let small : a / suc b ≤ a = div-le_self a (suc b) in
    ap (λ x. residue n (by_numbers x (integer_of n false (suc b)))) (unsigned n a) ∙ ap (λ y. residue n (by_numbers (pos a) y)) (unsigned n (suc b))
    ∙ ap (λ t. residue n (if t then pos 0 else pos (a / suc b))) (some_divisor b) ∙ mod-eq_of_lt (omega arith)

-- ---- sums with carries

xor_true : (b : Bool) → xor b true ≡ not b
xor_true true = refl
xor_true false = refl

xor_false : (b : Bool) → xor b false ≡ b
xor_false true = refl
xor_false false = refl

pub number-alu_operand : (n : ℕ) (signed invert : Bool) (v : Word) (b : ℕ) → b ≡ number (extend n signed v) → number (alu_operand n signed invert v) ≡ inverted_where invert n b
number-alu_operand n signed true v b e =
    let whole : number (extend n signed v) + number (word n (λ i. not (extended_bit signed i v))) + 1 ≡ 2 ^ n = number_complement n (λ i. extended_bit signed i v) in
    ap number (word-same n (λ i. xor (extended_bit signed i v) true) (λ i. not (extended_bit signed i v)) (λ i l. xor_true (extended_bit signed i v))) ∙ (omega arith)
number-alu_operand n signed false v b e =
    ap number (word-same n (λ i. xor (extended_bit signed i v) false) (λ i. extended_bit signed i v) (λ i l. xor_false (extended_bit signed i v))) ∙ sym e

pub word_of-alu_x : (n : ℕ) (signed invert : Bool) (u v : Word) (a b r : ℕ) → a ≡ number (extend n signed u) → b ≡ number (extend n signed v)
    → r ≡ bit_xor a (inverted_where invert n b) → word_of n r ≡ alu_xor_word n signed invert u v
word_of-alu_x n signed invert u v a b r e f h =
    let operand : inverted_where invert n b ≡ number (alu_operand n signed invert v) = sym (number-alu_operand n signed invert v b f) in
    ap (word_of n) h ∙ word-same n _ _ (λ i l.
    digit-xor a (inverted_where invert n b) i
    ∙ ap (λ x. xor x (digit (inverted_where invert n b) i)) (ap (λ x. digit x i) e ∙ digit-number (extend n signed u) i ∙ bit-word n (λ k. extended_bit signed k u) i false l)
    ∙ ap (λ y. xor (extended_bit signed i u) y) (ap (λ x. digit x i) operand ∙ digit-number (alu_operand n signed invert v) i))

pub word_of-alu_y : (n : ℕ) (signed carry_in invert : Bool) (u v : Word) (a b r : ℕ) → a ≡ number (extend n signed u) → b ≡ number (extend n signed v)
    → r ≡ (a + inverted_where invert n b + bit_value carry_in) % 2 ^ n → word_of n r ≡ alu_sum_word n signed carry_in invert u v
word_of-alu_y n signed carry_in invert u v a b r e f h =
    ap (word_of n) h ∙ word_of-mod n n (a + inverted_where invert n b + bit_value carry_in) (omega arith)
    ∙ ap (λ x. word_of n (x + inverted_where invert n b + bit_value carry_in)) e
    ∙ sym (ap (λ y. word_of n (number (extend n signed u) + y + bit_value carry_in)) (number-alu_operand n signed invert v b f))

pub word_of-alu_co : (n : ℕ) (signed carry_in invert : Bool) (u v : Word) (a b r : ℕ) → a ≡ number (extend n signed u) → b ≡ number (extend n signed v)
    → r ≡ carries n a (inverted_where invert n b) carry_in → word_of n r ≡ alu_carry_word n signed carry_in invert u v
word_of-alu_co n signed carry_in invert u v a b r e f h =
    let operand : inverted_where invert n b ≡ number (alu_operand n signed invert v) = sym (number-alu_operand n signed invert v b f) in
    ap (word_of n) h ∙ word_of-number n (word n (λ i. carry_out a (inverted_where invert n b) carry_in i)) (length-word n _)
    ∙ word-same n _ _ (λ i l.
    ap (λ x. nat_le (2 ^ (i + 1)) (x + inverted_where invert n b % 2 ^ (i + 1) + bit_value carry_in))
    (ap (λ x. x % 2 ^ (i + 1)) e ∙ sym (number-word_low (i + 1) n (λ k. extended_bit signed k u) (omega arith)))
    ∙ ap (λ y. nat_le (2 ^ (i + 1)) (number (extend (i + 1) signed u) + y + bit_value carry_in))
    (ap (λ x. x % 2 ^ (i + 1)) operand ∙ sym (number-word_low (i + 1) n (λ k. xor (extended_bit signed k v) invert) (omega arith))))
