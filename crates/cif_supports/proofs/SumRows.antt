-- An output bit of a sum, a difference, a negative or a product depends on the operands' bits up to its place alone.
use Rattle.std.specs.Prelude.{ℕ, suc, ◌+◌, ◌-◌, ◌*◌, ◌^◌, ◌<◌, ◌≤◌, ◌≡◌, Bool, true, false, ◌&&◌, List, [], length, get_or, take, nat_le, pos, neg_ℤ, ◌-ℤ◌, Contains, refl}
use Rattle.std.proofs.Common.{arith, sym, ap, ◌∙◌, inl, inr}
use Rattle.std.proofs.lemmas.Int.{ints}
use Rattle.std.proofs.lemmas.List.{get_or_past}
use Rattle.std.proofs.lemmas.List.FromFn.{get_or-map-range_with_len, length-map-range_with_len, take-map-range_with_len}
use Rattle.cif_defs.specs.Words.{Word, bit, digit, extend, extended_bit, int_word_of, number, operand, top, word, xor}
use Rattle.cif_defs.specs.Cells.{Cell}
use Rattle.cif_defs.specs.Meanings.{add_word, alu_carry_word, alu_operand, alu_sum, alu_sum_word, alu_xor_word, mul_word, neg_word, sub_word}
use Rattle.cif_defs.proofs.WordLaws.{bit-word, le_or_lt, past_word}
use Rattle.cif_defs.proofs.Exact.{ext_in, ext_past}
use Rattle.cif_defs.proofs.Numbers.{digit_plus, number_split, number_zero, word-same}
use Rattle.cif_defs.proofs.Sums.{carry, carry_local, sum_bit}
use Rattle.cif_defs.proofs.SumExact.{IsSum, add_is_sum, alu_is_sum, operand_bit, sub_is_sum}
use Rattle.cif_supports.specs.Supports.{OperandBit, bits_of, low_bits}
use Rattle.cif_supports.specs.Dependence.{AreAsLong, AgreeAt}
use Rattle.cif_supports.proofs.Lists.{contains_take}
use Rattle.cif_supports.proofs.BitRows.{same_bit}

-- ---- the low bits of an operand decide its extension up to their place

-- an extended bit of two words is the same
abbrev pub SameTo : Bool → ℕ → Word → Word → Type 0
SameTo signed i u w = (k : ℕ) → k ≤ i → extended_bit signed k u ≡ extended_bit signed k w

contains_low : (c : Cell) (p i k : ℕ) → k ≤ i → k < length (get_or c.operands p []) → Contains (low_bits c p i) (p, k)
contains_low c p i k h l =
    let n : ℕ = length (get_or c.operands p []) in
    let long : length (bits_of c p) ≡ n = length-map-range_with_len (λ j. (p, 0 + j)) 0 n in
    let same : 0 + k ≡ k = omega arith in
    contains_take (suc i) (bits_of c p) (p, k) k (omega arith) (omega arith)
    (get_or-map-range_with_len (λ j. (p, 0 + j)) 0 n k k (p, k) l same ∙ ap {B = OperandBit} (λ j. (p, j)) same)

top_same : (signed : Bool) (c : Cell) (p i k : ℕ) (us ws : List Word) → AreAsLong c us → AreAsLong c ws → AgreeAt (low_bits c p i) us ws → k ≤ i → length (get_or c.operands p []) ≤ k
    → top (operand us p) ≡ top (operand ws p)
top_same signed c p i k us ws e f h l m =
    let n : ℕ = length (get_or c.operands p []) in
    let last : bit (operand us p) (n - 1) ≡ bit (operand ws p) (n - 1) = elim (le_or_lt 0 n) [
      | inr none ↦ get_or_past (operand us p) (n - 1) false (let q : length (operand us p) ≡ n = e p in omega arith) ∙ sym (get_or_past (operand ws p) (n - 1) false (let q : length (operand ws p) ≡ n = f p in omega arith))
      | inl some ↦ h (p, n - 1) (contains_low c p i (n - 1) (omega arith) (omega arith))
    ] in
    ap (λ j. bit (operand us p) (j - 1)) (e p) ∙ last ∙ sym (ap (λ j. bit (operand ws p) (j - 1)) (f p))

pub same_low : (signed : Bool) (c : Cell) (p i : ℕ) (us ws : List Word) → AreAsLong c us → AreAsLong c ws → AgreeAt (low_bits c p i) us ws → SameTo signed i (operand us p) (operand ws p)
same_low signed c p i us ws e f h = λ k l.
    let n : ℕ = length (get_or c.operands p []) in
    elim (le_or_lt k n) [
      | inl m ↦ ext_in signed k n (operand us p) m (e p) ∙ h (p, k) (contains_low c p i k l m) ∙ sym (ext_in signed k n (operand ws p) m (f p))
      | inr m ↦ ext_past signed k n (operand us p) m (e p) ∙ ap (λ b. signed && b) (top_same signed c p i k us ws e f h l m) ∙ sym (ext_past signed k n (operand ws p) m (f p))
    ]

-- ---- sums

operand_same : (n i : ℕ) (signed invert : Bool) (u w : Word) → i < n → SameTo signed i u w → (k : ℕ) → k ≤ i → bit (alu_operand n signed invert u) k ≡ bit (alu_operand n signed invert w) k
operand_same n i signed invert u w l h k m =
    operand_bit n signed invert u k (omega arith) ∙ ap (λ b. xor b invert) (h k m) ∙ sym (operand_bit n signed invert w k (omega arith))

-- bit i of a row that is a sum
pub sum_same : (n i : ℕ) (signed carry_in invert : Bool) (row : Word → Word → Word) (u u' w w' : Word) → IsSum n signed carry_in invert row → i < n → SameTo signed i u u' → SameTo signed i w w'
    → bit (row u w) i ≡ bit (row u' w') i
sum_same n i signed carry_in invert row u u' w w' s l g h =
    let a : Word = alu_operand n signed false u in
    let a' : Word = alu_operand n signed false u' in
    let b : Word = alu_operand n signed invert w in
    let b' : Word = alu_operand n signed invert w' in
    let first : (k : ℕ) → k ≤ i → bit a k ≡ bit a' k = operand_same n i signed false u u' l g in
    let second : (k : ℕ) → k ≤ i → bit b k ≡ bit b' k = operand_same n i signed invert w w' l h in
    let x : bit a i ≡ bit a' i = first i (omega arith) in
    let y : bit b i ≡ bit b' i = second i (omega arith) in
    let z : carry carry_in a b i ≡ carry carry_in a' b' i = carry_local carry_in a a' b b' i (λ k m. first k (omega arith)) (λ k m. second k (omega arith)) in
    let both : sum_bit carry_in a b i ≡ sum_bit carry_in a' b' i = cc in
    s u w i l ∙ both ∙ sym (s u' w' i l)

-- a bit past the width of a row is 0
both_past : (n : ℕ) (f g : ℕ → Bool) (i : ℕ) → n ≤ i → bit (word n f) i ≡ bit (word n g) i
both_past n f g i h = past_word n f i false h ∙ sym (past_word n g i false h)

pub add_same : (n i : ℕ) (signed : Bool) (u u' w w' : Word) → SameTo signed i u u' → SameTo signed i w w' → bit (add_word n signed u w) i ≡ bit (add_word n signed u' w') i
add_same n i signed u u' w w' g h = elim (le_or_lt i n) [
  | inl l ↦ sum_same n i signed false false (add_word n signed) u u' w w' (add_is_sum n signed) l g h
  | inr l ↦ both_past n _ _ i l
]

pub sub_same : (n i : ℕ) (signed : Bool) (u u' w w' : Word) → SameTo signed i u u' → SameTo signed i w w' → bit (sub_word n signed u w) i ≡ bit (sub_word n signed u' w') i
sub_same n i signed u u' w w' g h = elim (le_or_lt i n) [
  | inl l ↦ sum_same n i signed true true (sub_word n signed) u u' w w' (sub_is_sum n signed) l g h
  | inr l ↦ both_past n _ _ i l
]

-- a negative is a difference from the word of no bits
empty_fill : (signed : Bool) → (signed && top []) ≡ false
empty_fill true = refl
empty_fill false = refl

empty_number : (n : ℕ) (signed : Bool) → number (extend n signed []) ≡ 0
empty_number n signed = number_zero (extend n signed []) (λ i. elim (le_or_lt i n) [
  | inl l ↦ bit-word n (λ k. extended_bit signed k []) i false l ∙ empty_fill signed
  | inr l ↦ past_word n (λ k. extended_bit signed k []) i false l
])

neg_is_sub : (n : ℕ) (signed : Bool) (u : Word) → neg_word n signed u ≡ sub_word n signed [] u
neg_is_sub n signed u =
    let none : number (extend n signed []) ≡ 0 = empty_number n signed in
    let minus : neg_ℤ (pos (number (extend n signed u))) ≡ pos (number (extend n signed [])) -ℤ pos (number (extend n signed u)) = omega (arith, ints) in
    ap (int_word_of n) minus

pub neg_same : (n i : ℕ) (signed : Bool) (u w : Word) → SameTo signed i u w → bit (neg_word n signed u) i ≡ bit (neg_word n signed w) i
neg_same n i signed u w h =
    ap (λ (x : Word). bit x i) (neg_is_sub n signed u) ∙ sub_same n i signed [] [] u w (λ k l. refl) h ∙ sym (ap (λ (x : Word). bit x i) (neg_is_sub n signed w))

-- ---- products

multiplied_out : (x0 m p y0 q : ℕ) → (x0 + m * p) * (y0 + m * q) ≡ x0 * y0 + m * (x0 * q + p * y0 + m * (p * q))
multiplied_out x0 m p y0 q = omega arith

digit_product : (i x y p q x0 y0 : ℕ) → x ≡ x0 + 2 ^ suc i * p → y ≡ y0 + 2 ^ suc i * q → digit (x * y) i ≡ digit (x0 * y0) i
digit_product i x y p q x0 y0 h k =
    let m : ℕ = 2 ^ suc i in
    let e : x * y ≡ x0 * y0 + m * (x0 * q + p * y0 + m * (p * q)) = ap (λ z. z * y) h ∙ ap (λ z. (x0 + m * p) * z) k ∙ multiplied_out x0 m p y0 q in
    ap (λ z. digit z i) e ∙ digit_plus (x0 * y0) i (x0 * q + p * y0 + m * (p * q))

low_part : (n i : ℕ) (signed : Bool) (u w : Word) → i < n → SameTo signed i u w → take (suc i) (extend n signed u) ≡ take (suc i) (extend n signed w)
low_part n i signed u w l h =
    take-map-range_with_len (λ k. extended_bit signed k u) 0 n (suc i) (omega arith)
    ∙ word-same (suc i) (λ k. extended_bit signed k u) (λ k. extended_bit signed k w) (λ k m. h k (omega arith))
    ∙ sym (take-map-range_with_len (λ k. extended_bit signed k w) 0 n (suc i) (omega arith))

pub mul_same : (n i : ℕ) (signed : Bool) (u u' w w' : Word) → SameTo signed i u u' → SameTo signed i w w' → bit (mul_word n signed u w) i ≡ bit (mul_word n signed u' w') i
mul_same n i signed u u' w w' g h = same_bit n _ _ i (λ l.
    digit_product i _ _ _ _ _ _ (number_split (suc i) (extend n signed u)) (number_split (suc i) (extend n signed w))
    ∙ ap (λ (v : Word). digit (number v * number (take (suc i) (extend n signed w))) i) (low_part n i signed u u' l g)
    ∙ ap (λ (v : Word). digit (number (take (suc i) (extend n signed u')) * number v) i) (low_part n i signed w w' l h)
    ∙ sym (digit_product i _ _ _ _ _ _ (number_split (suc i) (extend n signed u')) (number_split (suc i) (extend n signed w'))))

-- ---- sums with a carry in and a complement

pub alu_xor_same : (n i : ℕ) (signed invert : Bool) (u u' w w' : Word) → SameTo signed i u u' → SameTo signed i w w' → bit (alu_xor_word n signed invert u w) i ≡ bit (alu_xor_word n signed invert u' w') i
alu_xor_same n i signed invert u u' w w' g h = same_bit n _ _ i (λ l.
    let x : extended_bit signed i u ≡ extended_bit signed i u' = g i (omega arith) in
    let y : bit (alu_operand n signed invert w) i ≡ bit (alu_operand n signed invert w') i = operand_same n i signed invert w w' l h i (omega arith) in
    cc)

pub alu_sum_same : (n i : ℕ) (signed carry_in invert : Bool) (u u' w w' : Word) → SameTo signed i u u' → SameTo signed i w w' → bit (alu_sum_word n signed carry_in invert u w) i ≡ bit (alu_sum_word n signed carry_in invert u' w') i
alu_sum_same n i signed carry_in invert u u' w w' g h = elim (le_or_lt i n) [
  | inl l ↦ sum_same n i signed carry_in invert (alu_sum_word n signed carry_in invert) u u' w w' (alu_is_sum n signed carry_in invert) l g h
  | inr l ↦ both_past n _ _ i l
]

sum_to_same : (i : ℕ) (signed carry_in invert : Bool) (u u' w w' : Word) → SameTo signed i u u' → SameTo signed i w w' → alu_sum (i + 1) signed carry_in invert u w ≡ alu_sum (i + 1) signed carry_in invert u' w'
sum_to_same i signed carry_in invert u u' w w' g h =
    let x : number (extend (i + 1) signed u) ≡ number (extend (i + 1) signed u') = ap number (word-same (i + 1) _ _ (λ k l. g k (omega arith))) in
    let y : number (alu_operand (i + 1) signed invert w) ≡ number (alu_operand (i + 1) signed invert w') = ap number (word-same (i + 1) _ _ (λ k l. ap (λ b. xor b invert) (h k (omega arith)))) in
    omega arith

pub alu_carry_same : (n i : ℕ) (signed carry_in invert : Bool) (u u' w w' : Word) → SameTo signed i u u' → SameTo signed i w w' → bit (alu_carry_word n signed carry_in invert u w) i ≡ bit (alu_carry_word n signed carry_in invert u' w') i
alu_carry_same n i signed carry_in invert u u' w w' g h = same_bit n _ _ i (λ l. ap (λ x. nat_le (2 ^ (i + 1)) x) (sum_to_same i signed carry_in invert u u' w w' g h))
