-- Words that are moved up or down, as the words that shifts give.
use Rattle.std.specs.Prelude.{ℕ, ◌+◌, ◌-◌, ◌*◌, ◌/◌, ◌%◌, ◌^◌, ◌<◌, ◌≤◌, ◌≡◌, ◌⊎◌, ◌==◌, Bool, true, false, ◌&&◌, [], ◌∷◌, length, get_or, nat_le, min, ℤ, pos, negsuc, ◌+ℤ◌, ◌-ℤ◌, if◌then◌else◌, refl}
use Rattle.std.proofs.Common.{arith, sym, ap, ◌∙◌, inl, inr}
use Rattle.std.proofs.lemmas.Bool.Decides.{nat_tests}
use Rattle.std.proofs.lemmas.Int.{ints}
use Rattle.std.proofs.lemmas.List.{get_or_past}
use Rattle.std.proofs.lemmas.Nat.{one_shl}
use Rattle.std.proofs.Math.Nat.{pow-succ', div-eq_of_lt}
use Rattle.cif_defs.specs.Words.{Word, bit, bit_at, word, top, extend, extended_bit, number, int_number, digit}
use Rattle.cif_defs.specs.Meanings.{slice_word, extended_to, shl_word, shr_word, sshr_word, shift_word, shiftx_word}
use Rattle.cif_defs.proofs.WordLaws.{bit-word, le_or_lt, past_word}
use Rattle.cif_defs.proofs.Numbers.{word-same}
use Rattle.cif_defs.proofs.Exact.{bit-extend, ext_past}
use Rattle.cif_defs.proofs.WordNumbers.{digit-number, number_below}

within_or_beyond : (k n : ℕ) → (k ≤ n) ⊎ (n < k)
within_or_beyond k n = search arith

-- ---- by a number of places that is cut to the length of the word

up_bit : (w : Word) (k by i : ℕ) → by ≡ min k (length w) → i < length w → (k ≤ length w) ⊎ (length w < k) → (nat_le by i && bit w (i - by)) ≡ (nat_le k i && bit w (i - k))
up_bit w k by i e h (inl within) = let same : by ≡ k = omega arith in ap (λ j. nat_le j i && bit w (i - j)) same
up_bit w k by i e h (inr beyond) =
    let first : nat_le by i ≡ false = grind (arith, nat_tests) in
    let second : nat_le k i ≡ false = grind (arith, nat_tests) in
    ap (λ t. t && bit w (i - by)) first ∙ sym (ap (λ t. t && bit w (i - k)) second)

pub up_is : (n : ℕ) (w moved : Word) (k by : ℕ) → n ≤ length w → by ≡ min k (length w) → moved ≡ word (length w) (λ i. nat_le by i && bit w (i - by))
    → slice_word n 0 moved ≡ word n (λ i. nat_le k i && bit w (i - k))
up_is n w moved k by h e m = ap (λ (v : Word). slice_word n 0 v) m ∙ word-same n _ _ (λ i l.
    let first : 0 + i ≡ i = omega arith in
    ap (λ j. bit (word (length w) (λ p. nat_le by p && bit w (p - by))) j) first
    ∙ bit-word (length w) (λ p. nat_le by p && bit w (p - by)) i false (omega arith)
    ∙ up_bit w k by i e (omega arith) (within_or_beyond k (length w)))

down_bit : (w : Word) (k by i : ℕ) (fill : Bool) → by ≡ min k (length w) → (k ≤ length w) ⊎ (length w < k) → get_or w (i + by) fill ≡ get_or w (i + k) fill
down_bit w k by i fill e (inl within) = let same : by ≡ k = omega arith in ap (λ j. get_or w (i + j) fill) same
down_bit w k by i fill e (inr beyond) = get_or_past w (i + by) fill (omega arith) ∙ sym (get_or_past w (i + k) fill (omega arith))

pub down_is : (n : ℕ) (w moved : Word) (k by : ℕ) (fill : Bool) → n ≤ length w → by ≡ min k (length w) → moved ≡ word (length w) (λ i. get_or w (i + by) fill)
    → slice_word n 0 moved ≡ word n (λ i. get_or w (i + k) fill)
down_is n w moved k by fill h e m = ap (λ (v : Word). slice_word n 0 v) m ∙ word-same n _ _ (λ i l.
    let first : 0 + i ≡ i = omega arith in
    ap (λ j. bit (word (length w) (λ p. get_or w (p + by) fill)) j) first
    ∙ bit-word (length w) (λ p. get_or w (p + by) fill) i false (omega arith)
    ∙ down_bit w k by i fill e (within_or_beyond k (length w)))

-- ---- $shl, $shr and $sshr

pub shl_is : (n : ℕ) (signed : Bool) (a b x : Word) (k : ℕ) → x ≡ extend n signed a → k ≡ number b → word n (λ i. nat_le k i && bit x (i - k)) ≡ shl_word n signed a b
shl_is n signed a b x k e h =
    ap (λ (v : Word). word n (λ i. nat_le k i && bit v (i - k))) e
    ∙ ap (λ j. word n (λ i. nat_le j i && bit (extend n signed a) (i - j))) h
    ∙ word-same n _ _ (λ i l. ap (λ t. nat_le (number b) i && t) (bit-extend n signed a (i - number b) (omega arith)))

pub shr_is : (n : ℕ) (signed : Bool) (a b x : Word) (k : ℕ) → x ≡ extended_to n signed a → k ≡ number b → word n (λ i. get_or x (i + k) false) ≡ shr_word n signed a b
shr_is n signed a b x k e h =
    ap (λ (v : Word). word n (λ i. bit v (i + k))) e ∙ ap (λ j. word n (λ i. bit (extended_to n signed a) (i + j))) h

-- an extended word with its own fill above it
filled_place : (m : ℕ) (signed : Bool) (a : Word) (j : ℕ) → length a ≤ m → get_or (extend m signed a) j (signed && top a) ≡ extended_bit signed j a
filled_place m signed a j h = elim (le_or_lt j m) [
  | inl l ↦ bit-word m (λ i. extended_bit signed i a) j (signed && top a) l
  | inr l ↦ past_word m (λ i. extended_bit signed i a) j (signed && top a) l ∙ sym (ext_past signed j (length a) a (omega arith) refl)
]

pub sshr_is : (n : ℕ) (signed : Bool) (a b x : Word) (k : ℕ) (fill : Bool) → x ≡ extended_to n signed a → k ≡ number b → fill ≡ (signed && top a)
    → word n (λ i. get_or x (i + k) fill) ≡ sshr_word n signed a b
sshr_is n signed a b x k fill e h f =
    ap (λ (v : Word). word n (λ i. get_or v (i + k) fill)) e ∙ ap (λ j. word n (λ i. get_or (extended_to n signed a) (i + j) fill)) h
    ∙ ap (λ t. word n (λ i. get_or (extended_to n signed a) (i + number b) t)) f
    ∙ word-same n _ _ (λ i l. filled_place _ signed a (i + number b) (omega arith))

-- ---- $shift and $shiftx

-- a word whose highest bit is 1 has a number of at least half the range
pub high_number : (w : Word) → top w ≡ true → 2 ^ (length w - 1) ≤ number w
high_number w h =
    let highest : digit (number w) (length w - 1) ≡ true = digit-number w (length w - 1) ∙ h in
    elim (le_or_lt (number w) (2 ^ (length w - 1))) [
      | inl small ↦ absurd (let none : number w / 2 ^ (length w - 1) ≡ 0 = div-eq_of_lt small in let zero_digit : digit (number w) (length w - 1) ≡ false = ap (λ q. q % 2 == 1) none in cc)
      | inr large ↦ large
    ]

pub half_power : (w : Word) → 0 < length w → 2 ^ length w ≡ 2 * 2 ^ (length w - 1)
half_power [] h = absurd (omega arith)
half_power (b ∷ w) h = let shorter : length (b ∷ w) - 1 ≡ length w = omega arith in pow-succ' 2 (length w) ∙ ap (λ k. 2 * 2 ^ k) (sym shorter)

plain_number : (signed : Bool) (w : Word) → (signed && top w) ≡ false → int_number signed w ≡ pos (number w)
plain_number signed w h = ap (λ t. pos (number w) -ℤ pos (if t then 2 ^ length w else 0)) h ∙ ap pos (omega arith)

negative_number : (signed : Bool) (w : Word) → (signed && top w) ≡ true → int_number signed w ≡ pos (number w) -ℤ pos (2 ^ length w)
negative_number signed w h = ap (λ t. pos (number w) -ℤ pos (if t then 2 ^ length w else 0)) h

pub shift_down : (n : ℕ) (a_signed b_signed : Bool) (a b x : Word) (k : ℕ) → x ≡ extended_to n a_signed a → k ≡ number b → (b_signed && top b) ≡ false
    → word n (λ i. get_or x (i + k) false) ≡ shift_word n a_signed b_signed a b
shift_down n a_signed b_signed a b x k e h s =
    shr_is n a_signed a b x k e h ∙ ap (λ (z : ℤ). word n (λ i. bit_at (extended_to n a_signed a) (pos i +ℤ z))) (sym (plain_number b_signed b s))

place_below : (i m x p : ℕ) → m + x ≡ p → m ≤ i → pos i +ℤ (pos x -ℤ pos p) ≡ pos (i - m)
place_below i m x p e h = omega (arith, ints)

place_outside : (i m x p : ℕ) → m + x ≡ p → i < m → pos i +ℤ (pos x -ℤ pos p) ≡ negsuc (m - i - 1)
place_outside i m x p e h = omega (arith, ints)

up_place : (w : Word) (i m x p : ℕ) → m + x ≡ p → (i < m) ⊎ (m ≤ i) → (nat_le m i && bit w (i - m)) ≡ bit_at w (pos i +ℤ (pos x -ℤ pos p))
up_place w i m x p e (inl outside) =
    let none : nat_le m i ≡ false = grind (arith, nat_tests) in
    ap (λ t. t && bit w (i - m)) none ∙ ap (bit_at w) (sym (place_outside i m x p e outside))
up_place w i m x p e (inr inside) =
    let some : nat_le m i ≡ true = grind (arith, nat_tests) in
    ap (λ t. t && bit w (i - m)) some ∙ ap (bit_at w) (sym (place_below i m x p e inside))

pub shift_up : (n : ℕ) (a_signed b_signed : Bool) (a b x : Word) (m : ℕ) → x ≡ extended_to n a_signed a → m + number b ≡ 2 ^ length b → (b_signed && top b) ≡ true
    → word n (λ i. nat_le m i && bit x (i - m)) ≡ shift_word n a_signed b_signed a b
shift_up n a_signed b_signed a b x m e h s =
    ap (λ (v : Word). word n (λ i. nat_le m i && bit v (i - m))) e
    ∙ word-same n _ _ (λ i l. up_place (extended_to n a_signed a) i m (number b) (2 ^ length b) h (le_or_lt i m))
    ∙ ap (λ (z : ℤ). word n (λ i. bit_at (extended_to n a_signed a) (pos i +ℤ z))) (sym (negative_number b_signed b s))

-- zeros above a word change none of its places
unsigned_place : (m : ℕ) (a : Word) (z : ℤ) → length a ≤ m → bit_at (extend m false a) z ≡ bit_at a z
unsigned_place m a (pos j) h = elim (le_or_lt j m) [
  | inl l ↦ bit-word m (λ i. bit a i) j false l
  | inr l ↦ past_word m (λ i. bit a i) j false l ∙ sym (get_or_past a j false (omega arith))
]
unsigned_place m a (negsuc j) h = refl

pub shiftx_is : (n : ℕ) (b_signed : Bool) (a b : Word) → shift_word n false b_signed a b ≡ shiftx_word n b_signed a b
shiftx_is n b_signed a b = word-same n _ _ (λ i l. unsigned_place _ a (pos i +ℤ int_number b_signed b) (omega arith))

-- ---- how far below zero a word stands, by halves of its range

pub half_is : (w : Word) (n : ℕ) → n ≡ length w → 0 < length w → length w ≤ 128 → 1 * 2 ^ (n - 1) % 2 ^ 128 ≡ 2 ^ (length w - 1)
half_is w n e h l = one_shl (n - 1) 128 (omega arith) ∙ ap (λ k. 2 ^ (k - 1)) e

pub below_is : (w : Word) (half x : ℕ) → half ≡ 2 ^ (length w - 1) → 0 < length w → top w ≡ true → x ≡ number w → half - (x - half) + number w ≡ 2 ^ length w
below_is w half x e h t f =
    let high : 2 ^ (length w - 1) ≤ number w = high_number w t in
    let limit : number w < 2 ^ length w = number_below w in
    let whole : 2 ^ length w ≡ 2 * 2 ^ (length w - 1) = half_power w h in
    omega arith
