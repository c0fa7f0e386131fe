-- The completions of an operand with the least and the greatest number, signed or not.
use Rattle.std.specs.Prelude.{ℕ, zero, suc, ◌+◌, ◌-◌, ◌*◌, ◌^◌, ◌<◌, ◌≤◌, ◌≡◌, Bool, true, false, [], ◌∷◌, length, take, drop, if◌then◌else◌, pos, ◌-ℤ◌, ◌≤ℤ◌, refl}
use Rattle.std.proofs.Common.{arith, sym, ap, ◌∙◌, inl, inr, length-drop, length-take}
use Rattle.std.proofs.lemmas.Int.{ints}
use Rattle.std.proofs.lemmas.List.{get_or-take, get_or_past}
use Rattle.std.proofs.Math.Nat.{pow-succ'}
use Rattle.cif_defs.specs.Completions.{Completes}
use Rattle.cif_defs.specs.Words.{Word, bit, bit_value, extend, extended_bit, int_number, number, top, word}
use Rattle.cif_defs.proofs.WordLaws.{length-word, le_or_lt}
use Rattle.cif_defs.proofs.Numbers.{Le, number_mono, number_split, word-same}
use Rattle.cif_defs.proofs.Exact.{ext_in, ext_past}
use Rattle.rule_arith.specs.Bounds.{is_upper, order_start}
use Rattle.rule_arith.proofs.Limits.{above_side, at_bound, at_bound_clear, below_side, bit-limit, greatest, least, limit}

-- ---- the number of a word, by its highest bit

pub one_bit : (w : Word) → length w ≡ 1 → w ≡ bit w 0 ∷ []
one_bit [] h = absurd (omega arith)
one_bit (b ∷ []) h = refl
one_bit (b ∷ c ∷ w) h = absurd (let q : suc (suc (length w)) ≡ 1 = h in omega arith)

test_drop : (k : ℕ) (w : Word) → bit (drop k w) 0 ≡ bit w k
test_drop zero w = refl
test_drop (suc k) [] = refl
test_drop (suc k) (b ∷ w) = test_drop k w

number_top : (w : Word) → 1 ≤ length w → number w ≡ number (take (length w - 1) w) + 2 ^ (length w - 1) * bit_value (top w)
number_top w h =
    let k : ℕ = length w - 1 in
    let short : length (drop k w) ≡ 1 = length-drop k w ∙ (omega arith) in
    let last : drop k w ≡ top w ∷ [] = one_bit (drop k w) short ∙ ap (λ b. b ∷ []) (test_drop k w) in
    let value : number (drop k w) ≡ bit_value (top w) = ap number last ∙ (omega arith) in
    number_split k w ∙ ap (λ x. number (take k w) + 2 ^ k * x) value

-- the part of a number that its highest bit takes away
abbrev sign_part : Bool → ℕ → ℕ
sign_part b k = if b then 2 ^ k else 0

int_top_by : (w : Word) (b : Bool) → 1 ≤ length w → top w ≡ b → int_number true w ≡ pos (number (take (length w - 1) w)) -ℤ pos (sign_part b (length w - 1))
int_top_by w true h e =
    let whole : number w ≡ number (take (length w - 1) w) + 2 ^ (length w - 1) * 1 = number_top w h ∙ ap (λ b. number (take (length w - 1) w) + 2 ^ (length w - 1) * bit_value b) e in
    let long : length w ≡ suc (length w - 1) = omega arith in
    let power : 2 ^ length w ≡ 2 * 2 ^ (length w - 1) = ap (λ k. 2 ^ k) long ∙ pow-succ' 2 (length w - 1) in
    ap (λ b. pos (number w) -ℤ pos (if b then 2 ^ length w else 0)) e ∙ (omega (arith, ints))
int_top_by w false h e =
    let whole : number w ≡ number (take (length w - 1) w) + 2 ^ (length w - 1) * 0 = number_top w h ∙ ap (λ b. number (take (length w - 1) w) + 2 ^ (length w - 1) * bit_value b) e in
    ap (λ b. pos (number w) -ℤ pos (if b then 2 ^ length w else 0)) e ∙ (omega (arith, ints))

-- ---- order by places

take_le : (k : ℕ) (v w : Word) → length v ≡ length w → ((i : ℕ) → i < k → Le (bit v i) (bit w i)) → (i : ℕ) → Le (bit (take k v) i) (bit (take k w) i)
take_le k v w e h i = elim (le_or_lt i k) [
  | inl l ↦ λ q. get_or-take k w i false l ∙ h i l (sym (get_or-take k v i false l) ∙ q)
  | inr l ↦ λ q. (let none : bit (take k v) i ≡ false = get_or_past (take k v) i false (omega (arith, length-take k v)) in absurd (cc))
]

number_le : (v w : Word) → length v ≡ length w → ((i : ℕ) → i < length v → Le (bit v i) (bit w i)) → number v ≤ number w
number_le v w e h = number_mono v w e (λ i. elim (le_or_lt i (length v)) [
  | inl l ↦ h i l
  | inr l ↦ λ q. (let none : bit v i ≡ false = get_or_past v i false l in absurd (cc))
])

sign_le : (a b : Bool) (k : ℕ) → Le b a → sign_part b k ≤ sign_part a k
sign_le true b k h = elim b as (λ x. sign_part x k ≤ sign_part true k) [ true ↦ omega arith | false ↦ omega arith ]
sign_le false true k h = absurd (let q : false ≡ true = h refl in cc)
sign_le false false k h = omega arith

-- a word with more ones below its highest bit, and a highest bit that is no more, has a larger signed number
signed_le : (v w : Word) → length v ≡ length w → 1 ≤ length v → ((i : ℕ) → i < length v - 1 → Le (bit v i) (bit w i)) → Le (bit w (length v - 1)) (bit v (length v - 1)) → int_number true v ≤ℤ int_number true w
signed_le v w e some low high =
    let k : ℕ = length v - 1 in
    let same : length w - 1 ≡ k = omega arith in
    let lows : number (take k v) ≤ number (take k w) = number_mono (take k v) (take k w) (length-take k v ∙ (omega arith) ∙ sym (length-take k w)) (take_le k v w e low) in
    let signs : sign_part (bit w k) k ≤ sign_part (bit v k) k = sign_le (bit v k) (bit w k) k high in
    let of_v : int_number true v ≡ pos (number (take k v)) -ℤ pos (sign_part (bit v k) k) = int_top_by v (bit v k) some refl in
    let of_w : int_number true w ≡ pos (number (take k w)) -ℤ pos (sign_part (bit w k) k) =
    int_top_by w (bit w k) (omega arith) (ap (bit w) same) ∙ ap (λ j. pos (number (take j w)) -ℤ pos (sign_part (bit w k) j)) same in
    omega (arith, ints)

unsigned_is : (w : Word) → int_number false w ≡ pos (number w)
unsigned_is w = omega (arith, ints)

-- ---- the completions of least and greatest number

abbrev pub least_word : ℕ → Bool → Word → Word → Word
least_word m signed v t = limit false true (order_start m signed (length v)) v t

abbrev pub greatest_word : ℕ → Bool → Word → Word → Word
greatest_word m signed v t = limit true false (order_start m signed (length v)) v t

low_bit : (k i : ℕ) (v t u : Word) → length t ≡ length v → Completes v t u → i < k → Le (bit (limit false true k v t) i) (bit u i)
low_bit k i v t u e c l = λ q. least (bit v i) (bit t i) (bit u i) (c.same i)
    (sym (bit-limit false true k v t i e ∙ ap (λ s. at_bound s (bit v i) (bit t i)) (below_side k i false true l)) ∙ q)

high_bit : (k i : ℕ) (v t u : Word) → length t ≡ length v → Completes v t u → i < k → Le (bit u i) (bit (limit true false k v t) i)
high_bit k i v t u e c l = λ q. bit-limit true false k v t i e ∙ ap (λ s. at_bound s (bit v i) (bit t i)) (below_side k i true false l) ∙ greatest (bit v i) (bit t i) (bit u i) (c.same i) q

low_sign : (k i : ℕ) (v t u : Word) → length t ≡ length v → Completes v t u → k ≤ i → Le (bit u i) (bit (limit false true k v t) i)
low_sign k i v t u e c l = λ q. bit-limit false true k v t i e ∙ ap (λ s. at_bound s (bit v i) (bit t i)) (above_side k i false true l) ∙ greatest (bit v i) (bit t i) (bit u i) (c.same i) q

high_sign : (k i : ℕ) (v t u : Word) → length t ≡ length v → Completes v t u → k ≤ i → Le (bit (limit true false k v t) i) (bit u i)
high_sign k i v t u e c l = λ q. least (bit v i) (bit t i) (bit u i) (c.same i)
    (sym (bit-limit true false k v t i e ∙ ap (λ s. at_bound s (bit v i) (bit t i)) (above_side k i true false l)) ∙ q)

pub least_number : (m : ℕ) (signed : Bool) (v t u : Word) → length t ≡ length v → 1 ≤ length v → length v ≤ m → Completes v t u → int_number signed (least_word m signed v t) ≤ℤ int_number signed u
least_number m true v t u e some few c =
    let k : ℕ = length v - 1 in
    let long : length (limit false true k v t) ≡ length v = length-word (length v) _ in
    let same : length u ≡ length v = c.as_long in
    signed_le (limit false true k v t) u (long ∙ sym same) (omega arith) (λ i l. low_bit k i v t u e c (omega arith)) (low_sign k (length (limit false true k v t) - 1) v t u e c (omega arith))
least_number m false v t u e some few c =
    let long : length (limit false true m v t) ≡ length v = length-word (length v) _ in
    let same : length u ≡ length v = c.as_long in
    let order : number (limit false true m v t) ≤ number u = number_le (limit false true m v t) u (long ∙ sym same) (λ i l. low_bit m i v t u e c (omega arith)) in
    omega (arith, ints, unsigned_is (limit false true m v t), unsigned_is u)

pub greatest_number : (m : ℕ) (signed : Bool) (v t u : Word) → length t ≡ length v → 1 ≤ length v → length v ≤ m → Completes v t u → int_number signed u ≤ℤ int_number signed (greatest_word m signed v t)
greatest_number m true v t u e some few c =
    let k : ℕ = length v - 1 in
    let long : length (limit true false k v t) ≡ length v = length-word (length v) _ in
    let same : length u ≡ length v = c.as_long in
    signed_le u (limit true false k v t) (same ∙ sym long) (omega arith) (λ i l. high_bit k i v t u e c (omega arith)) (high_sign k (length u - 1) v t u e c (omega arith))
greatest_number m false v t u e some few c =
    let long : length (limit true false m v t) ≡ length v = length-word (length v) _ in
    let same : length u ≡ length v = c.as_long in
    let order : number u ≤ number (limit true false m v t) = number_le u (limit true false m v t) (same ∙ sym long) (λ i l. high_bit m i v t u e c (omega arith)) in
    omega (arith, ints, unsigned_is (limit true false m v t), unsigned_is u)

-- ---- the same, extended

order_cases : (m : ℕ) (signed low high : Bool) (v t : Word) (i : ℕ) → length t ≡ length v → 1 ≤ length v → i < m → length v ≤ i
    → extended_bit signed i (limit low high (order_start m signed (length v)) v t) ≡ at_bound (is_upper (order_start m signed (length v)) low high i) (extended_bit signed i v) (extended_bit signed i t)
order_cases m true low high v t i e some l h =
    let k : ℕ = length v - 1 in
    let u : Word = limit low high k v t in
    let long : length u ≡ length v = length-word (length v) _ in
    ext_past true i (length v) u h long ∙ ap (λ j. bit u (j - 1)) long ∙ bit-limit low high k v t k e
    ∙ ap (λ s. at_bound s (bit v k) (bit t k)) (above_side k k low high (omega arith) ∙ sym (above_side k i low high (omega arith)))
    ∙ sym (ap (λ x. at_bound (is_upper k low high i) x (extended_bit true i t)) (ext_past true i (length v) v h refl)
    ∙ ap (λ x. at_bound (is_upper k low high i) (bit v k) x) (ext_past true i (length v) t h e ∙ ap (λ j. bit t (j - 1)) e))
order_cases m false low high v t i e some l h =
    let u : Word = limit low high m v t in
    ext_past false i (length v) u h (length-word (length v) _)
    ∙ sym (at_bound_clear (is_upper m low high i) (extended_bit false i v) (extended_bit false i t) (ext_past false i (length v) t h e) ∙ ext_past false i (length v) v h refl)

order_bit : (m : ℕ) (signed low high : Bool) (v t : Word) (i : ℕ) → length t ≡ length v → 1 ≤ length v → i < m
    → extended_bit signed i (limit low high (order_start m signed (length v)) v t) ≡ at_bound (is_upper (order_start m signed (length v)) low high i) (extended_bit signed i v) (extended_bit signed i t)
order_bit m signed low high v t i e some l = elim (le_or_lt i (length v)) [
  | inl h ↦ (let k : ℕ = order_start m signed (length v) in
      ext_in signed i (length v) (limit low high k v t) h (length-word (length v) _) ∙ bit-limit low high k v t i e
      ∙ sym (ap (λ x. at_bound (is_upper k low high i) x (extended_bit signed i t)) (ext_in signed i (length v) v h refl)
      ∙ ap (λ x. at_bound (is_upper k low high i) (bit v i) x) (ext_in signed i (length v) t h e)))
  | inr h ↦ order_cases m signed low high v t i e some l h
]

pub extended_order : (m : ℕ) (signed low high : Bool) (v t : Word) → length t ≡ length v → 1 ≤ length v
    → extend m signed (limit low high (order_start m signed (length v)) v t) ≡ word m (λ i. at_bound (is_upper (order_start m signed (length v)) low high i) (extended_bit signed i v) (extended_bit signed i t))
extended_order m signed low high v t e some = word-same m _ _ (λ i l. order_bit m signed low high v t i e some l)
