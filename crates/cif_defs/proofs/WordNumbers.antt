-- Words and their numbers determine each other, and what extending and cutting do to a number.
use Rattle.std.specs.Prelude.{ℕ, zero, suc, ◌+◌, ◌-◌, ◌*◌, ◌/◌, ◌%◌, ◌^◌, ◌<◌, ◌≤◌, ◌≡◌, ◌≢◌, ◌==◌, Bool, true, false, not, ◌&&◌, [], ◌∷◌, length, get_or, max, pos, negsuc, ◌-ℤ◌, ℤ, if◌then◌else◌, int_lt, int_le, refl}
use Rattle.std.proofs.Common.{arith, sym, ap, ◌∙◌, inl, inr}
use Rattle.std.proofs.lemmas.Bool.Decides.{eqb_tells, nat_tests}
use Rattle.std.proofs.lemmas.Int.{ints}
use Rattle.std.proofs.lemmas.List.{get_or_default, get_or_past}
use Rattle.std.proofs.lemmas.Nat.{mod-pow-add}
use Rattle.std.proofs.Math.Nat.{mod-one, pow-succ', zero-div, div-one}
use Rattle.cif_defs.specs.Meanings.{compared}
use Rattle.cif_defs.specs.Words.{Word, bit, bit_value, digit, extend, extended_bit, int_number, number, top, word, word_of}
use Rattle.cif_defs.proofs.WordLaws.{bit-word, length-word, le_or_lt, past_word, same_words}
use Rattle.cif_defs.proofs.Numbers.{digit-suc, digit_mod, number_complement, number_zero, word-same, word-suc, word_of-suc}

-- ---- the number of a word, and the word of a number

value_small : (b : Bool) → bit_value b ≤ 1
value_small true = omega arith
value_small false = omega arith

pub number_below : (w : Word) → number w < 2 ^ length w
number_below [] = omega arith
number_below (b ∷ w) =
    let rest : number w < 2 ^ length w = number_below w in
    let one : bit_value b ≤ 1 = value_small b in
    let power : 2 ^ suc (length w) ≡ 2 * 2 ^ length w = pow-succ' 2 (length w) in
    omega arith

pub number-word_below : (n : ℕ) (f : ℕ → Bool) → number (word n f) < 2 ^ n
number-word_below n f = rw length-word at (number_below (word n f))

lowest_value : (x : ℕ) → bit_value (x % 2 == 1) ≡ x % 2
lowest_value x = elim (eqb_tells (x % 2) 1) [
  | inl h ↦ ap bit_value h.0 ∙ sym h.1
  | inr h ↦ (let other : x % 2 ≢ 1 = h.1 in ap bit_value h.0 ∙ (omega arith))
]

lowest_bit : (b : Bool) (m : ℕ) → ((bit_value b + 2 * m) % 2 == 1) ≡ b
lowest_bit true m = grind (arith, nat_tests)
lowest_bit false m = grind (arith, nat_tests)

pub number-word_of : (n x : ℕ) → number (word_of n x) ≡ x % 2 ^ n
number-word_of zero x = sym (mod-one x)
number-word_of (suc n) x =
    let rest : number (word_of n (x / 2)) ≡ x / 2 % 2 ^ n = number-word_of n (x / 2) in
    let parts : x % 2 ^ (n + 1) ≡ (x / 2 % 2 ^ n) * 2 + x % 2 = mod-pow-add x n 1 in
    let power : x % 2 ^ suc n ≡ x % 2 ^ (n + 1) = ap (λ k. x % 2 ^ k) (omega arith) in
    let lowest : bit_value (x % 2 == 1) ≡ x % 2 = lowest_value x in
    ap number (word_of-suc n x) ∙ (omega arith)

pub digit-number : (w : Word) (i : ℕ) → digit (number w) i ≡ bit w i
digit-number [] i = ap (λ k. k % 2 == 1) (zero-div (2 ^ i))
digit-number (b ∷ w) zero = ap (λ k. k % 2 == 1) (div-one (bit_value b + 2 * number w)) ∙ lowest_bit b (number w)
digit-number (b ∷ w) (suc i) =
    let half : (bit_value b + 2 * number w) / 2 ≡ number w = (let one : bit_value b ≤ 1 = value_small b in omega arith) in
    digit-suc (bit_value b + 2 * number w) i ∙ ap (λ k. digit k i) half ∙ digit-number w i

pub word_of-number : (n : ℕ) (w : Word) → length w ≡ n → word_of n (number w) ≡ w
word_of-number n w h = same_words _ _ (length-word n _ ∙ sym h)
    (λ i l. let k : i < n = omega (arith, length-word n (λ j. digit (number w) j)) in bit-word n _ i false k ∙ digit-number w i)

-- the word of a number is decided by that number modulo 2 ^ n, or modulo a higher power
pub word_of-mod : (m n x : ℕ) → n ≤ m → word_of n (x % 2 ^ m) ≡ word_of n x
word_of-mod m n x h = word-same n _ _ (λ i l. digit_mod x m i (omega arith))

pub word_of-same : (n x y : ℕ) → x % 2 ^ n ≡ y % 2 ^ n → word_of n x ≡ word_of n y
word_of-same n x y e = sym (word_of-mod n n x (omega arith)) ∙ ap (λ k. word_of n k) e ∙ word_of-mod n n y (omega arith)

-- the number of the lowest k bits
pub number-word_low : (k n : ℕ) (f : ℕ → Bool) → k ≤ n → number (word k f) ≡ number (word n f) % 2 ^ k
number-word_low k n f h =
    let digits : word k f ≡ word_of k (number (word n f)) =
    word-same k f _ (λ i l. sym (digit-number (word n f) i ∙ bit-word n f i false (omega arith))) in
    ap number digits ∙ number-word_of k (number (word n f))

-- ---- extending

filled_with_zeros : (m : ℕ) (w : Word) → length w ≤ m → number (word m (λ i. get_or w i false)) ≡ number w
filled_with_zeros m [] h = number_zero _ (λ i. elim (le_or_lt i m) [
  | inl l ↦ bit-word m (λ k. get_or [] k false) i false l
  | inr l ↦ past_word m (λ k. get_or [] k false) i false l
])
filled_with_zeros zero (b ∷ w) h = absurd (omega arith)
filled_with_zeros (suc m) (b ∷ w) h =
    let rest : number (word m (λ i. get_or w i false)) ≡ number w = filled_with_zeros m w (omega arith) in
    ap number (word-suc m (λ i. get_or (b ∷ w) i false)) ∙ ap (λ k. bit_value b + 2 * k) rest

ones : (m : ℕ) → number (word m (λ i. true)) + 1 ≡ 2 ^ m
ones m =
    let whole : number (word m (λ i. true)) + number (word m (λ i. false)) + 1 ≡ 2 ^ m = number_complement m (λ i. true) in
    let none : number (word m (λ i. false)) ≡ 0 = number_zero _ (λ i. elim (le_or_lt i m) [
      | inl l ↦ bit-word m (λ k. false) i false l
      | inr l ↦ past_word m (λ k. false) i false l
    ]) in
    omega arith

filled_with_ones : (m : ℕ) (w : Word) → length w ≤ m → number (word m (λ i. get_or w i true)) + 2 ^ length w ≡ number w + 2 ^ m
filled_with_ones m [] h = omega (arith, ones m)
filled_with_ones zero (b ∷ w) h = absurd (omega arith)
filled_with_ones (suc m) (b ∷ w) h =
    let rest : number (word m (λ i. get_or w i true)) + 2 ^ length w ≡ number w + 2 ^ m = filled_with_ones m w (omega arith) in
    let whole : number (word (suc m) (λ i. get_or (b ∷ w) i true)) ≡ bit_value b + 2 * number (word m (λ i. get_or w i true)) = ap number (word-suc m (λ i. get_or (b ∷ w) i true)) in
    let low : 2 ^ suc (length w) ≡ 2 * 2 ^ length w = pow-succ' 2 (length w) in
    let high : 2 ^ suc m ≡ 2 * 2 ^ m = pow-succ' 2 m in
    omega arith

-- the highest bit stays
top-extend : (m : ℕ) (signed : Bool) (w : Word) → length w ≤ m → (signed && top (extend m signed w)) ≡ (signed && top w)
top-extend m false w h = refl
top-extend m true [] h =
    elim (le_or_lt (length (extend m true []) - 1) m) [
      | inl l ↦ bit-word m (λ k. get_or [] k false) (length (extend m true []) - 1) false l
      | inr l ↦ past_word m (λ k. get_or [] k false) (length (extend m true []) - 1) false l
    ]
top-extend m true (b ∷ w) h =
    let long : length (extend m true (b ∷ w)) ≡ m = length-word m _ in
    let some : 1 ≤ m = omega arith in
    ap (λ k. bit (extend m true (b ∷ w)) (k - 1)) long ∙ bit-word m (λ i. extended_bit true i (b ∷ w)) (m - 1) false (omega arith)
    ∙ elim (le_or_lt (m - 1) (length (b ∷ w))) [
      | inl l ↦ get_or_default (b ∷ w) (m - 1) (top (b ∷ w)) false l ∙ ap (λ k. bit (b ∷ w) (k - 1)) (omega arith)
      | inr l ↦ get_or_past (b ∷ w) (m - 1) (top (b ∷ w)) l
    ]

extended_value : (m : ℕ) (fill : Bool) (w : Word) → length w ≤ m
    → pos (number (word m (λ i. get_or w i fill))) -ℤ pos (if fill then 2 ^ m else 0) ≡ pos (number w) -ℤ pos (if fill then 2 ^ length w else 0)
extended_value m false w h = ap (λ k. pos k -ℤ pos 0) (filled_with_zeros m w h)
extended_value m true w h =
    let whole : number (word m (λ i. get_or w i true)) + 2 ^ length w ≡ number w + 2 ^ m = filled_with_ones m w h in
    omega (arith, ints)

-- extending keeps the signed and the unsigned number
pub int_number-extend : (m : ℕ) (signed : Bool) (w : Word) → length w ≤ m → int_number signed (extend m signed w) ≡ int_number signed w
int_number-extend m signed w h =
    let long : length (extend m signed w) ≡ m = length-word m _ in
    ap (λ t. pos (number (extend m signed w)) -ℤ pos (if t then 2 ^ length (extend m signed w) else 0)) (top-extend m signed w h)
    ∙ ap (λ k. pos (number (extend m signed w)) -ℤ pos (if signed && top w then 2 ^ k else 0)) long
    ∙ extended_value m (signed && top w) w h

-- a word of that width already
pub extend-same : (n : ℕ) (signed : Bool) (w : Word) → length w ≡ n → extend n signed w ≡ w
extend-same n signed w h = same_words _ _ (length-word n _ ∙ sym h)
    (λ i l. let k : i < n = omega (arith, length-word n (λ j. extended_bit signed j w)) in
    bit-word n (λ j. extended_bit signed j w) i false k ∙ get_or_default w i (signed && top w) false (omega arith))

-- a comparison is one of the operands' own numbers
pub compared-numbers : (f : ℤ → ℤ → Bool) (signed : Bool) (a b : Word) → compared f signed a b ≡ f (int_number signed a) (int_number signed b)
compared-numbers f signed a b =
    ap (λ z. f z (int_number signed (extend (max (length a) (length b)) signed b))) (int_number-extend (max (length a) (length b)) signed a (omega arith))
    ∙ ap (λ z. f (int_number signed a) z) (int_number-extend (max (length a) (length b)) signed b (omega arith))

not_below : (x y : ℤ) → not (int_lt y x) ≡ int_le x y
not_below (pos a) (pos b) = grind (arith, nat_tests)
not_below (pos a) (negsuc b) = refl
not_below (negsuc a) (pos b) = refl
not_below (negsuc a) (negsuc b) = grind (arith, nat_tests)

-- at most is not above
pub compared_le : (signed : Bool) (a b : Word) → compared int_le signed a b ≡ not (compared int_lt signed b a)
compared_le signed a b = compared-numbers int_le signed a b ∙ sym (ap not (compared-numbers int_lt signed b a) ∙ not_below (int_number signed a) (int_number signed b))
