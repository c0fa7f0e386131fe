-- Lists of bits as the words that the clauses name.
use Rattle.std.specs.Prelude.{ℕ, suc, ◌+◌, ◌-◌, ◌*◌, ◌%◌, ◌^◌, ◌<◌, ◌≤◌, ◌≡◌, ◌⊎◌, Bool, true, false, ◌&&◌, [], ◌++◌, length, get_or, min, take, drop, replicate, nat_lt, nat_le, refl}
use Rattle.std.proofs.Common.{arith, sym, ap, ◌∙◌, inl, inr, if◌then◌else◌}
use Rattle.std.proofs.lemmas.Bool.Decides.{nat_tests}
use Rattle.std.proofs.lemmas.List.{length-append, length-replicate, length-take, length-take-le, length-drop, get_or-replicate, get_or-take, get_or-drop, get_or_append_left, get_or-append_right, get_or_past, get_or_default, take_all, take_rest}
use Rattle.std.proofs.lemmas.List.FromFn.{fill_by_all}
use Rattle.std.proofs.lemmas.Nat.{one_shl}
use Rattle.std.proofs.Math.Pow.{pow_mono}
use Rattle.std.proofs.Math.Nat.{pow-succ'}
use Rattle.cif_defs.specs.Words.{Word, bit, word, zeros, bit_value, number}
use Rattle.cif_defs.specs.Meanings.{concat_word, slice_word}
use Rattle.cif_defs.proofs.WordLaws.{le_or_lt}
use Rattle.cif_defs.proofs.NumberJoins.{number-take_more}
use Rattle.cif_defs.proofs.Numbers.{word-same}

pub zeros_from_replicate : (n : ℕ) → replicate n false ≡ zeros n
zeros_from_replicate n = fill_by_all (λ i. false) (replicate n false) n false (length-replicate n false) (λ i h. get_or-replicate n i false false h)

-- a word with a fill above it
filled_bit : (u : Word) (n : ℕ) (fill : Bool) (i : ℕ) → i < n → (i < length u) ⊎ (length u ≤ i) → get_or (u ++ replicate (n - length u) fill) i false ≡ get_or u i fill
filled_bit u n fill i h (inl inside) = get_or_append_left u _ false i inside ∙ get_or_default u i false fill inside
filled_bit u n fill i h (inr above) =
    get_or-append_right u (replicate (n - length u) fill) (length u) i false refl above
    ∙ get_or-replicate (n - length u) (i - length u) fill false (omega arith)
    ∙ sym (get_or_past u i fill above)

pub filled_is : (u : Word) (n : ℕ) (fill : Bool) → length u ≤ n → u ++ replicate (n - length u) fill ≡ word n (λ i. get_or u i fill)
filled_is u n fill h = fill_by_all (λ i. get_or u i fill) _ n false
    (omega (arith, length-append u (replicate (n - length u) fill), length-replicate (n - length u) fill))
    (λ i l. filled_bit u n fill i l (le_or_lt i (length u)))

-- the same, of the steps that make it
pub filled_from : (u v r : Word) (n k : ℕ) (fill : Bool) → v ≡ u → k ≡ length u → r ≡ take n v ++ replicate (n - k) fill → length u ≤ n → r ≡ word n (λ i. get_or u i fill)
filled_from u v r n k fill same long made h =
    made
    ∙ ap (λ x. take n x ++ replicate (n - k) fill) same
    ∙ ap (λ x. x ++ replicate (n - k) fill) (take_all n u h)
    ∙ ap (λ j. u ++ replicate (n - j) fill) long
    ∙ filled_is u n fill h

-- a fill alone
pub fill_from : (v r : Word) (n k : ℕ) (fill : Bool) → v ≡ [] → k ≡ 0 → r ≡ take n v ++ replicate (n - k) fill → r ≡ replicate n fill
fill_from v r n k fill same none made =
    let whole : n - k ≡ n = omega arith in
    made
    ∙ ap (λ x. take n x ++ replicate (n - k) fill) same
    ∙ ap (λ x. x ++ replicate (n - k) fill) (take_all n [] (omega arith))
    ∙ ap (λ j. replicate j fill) whole

-- joined words
joined_bit : (a b : Word) (i : ℕ) → (i < length a) ⊎ (length a ≤ i) → bit (a ++ b) i ≡ (if nat_lt i (length a) then bit a i else bit b (i - length a))
joined_bit a b i (inl low) =
    let t : nat_lt i (length a) ≡ true = grind (arith, nat_tests) in
    get_or_append_left a b false i low ∙ ap (λ c. if c then bit a i else bit b (i - length a)) (sym t)
joined_bit a b i (inr high) =
    let t : nat_lt i (length a) ≡ false = grind (arith, nat_tests) in
    get_or-append_right a b (length a) i false refl high ∙ ap (λ c. if c then bit a i else bit b (i - length a)) (sym t)

pub joined_is : (a b : Word) → a ++ b ≡ concat_word (length a) (length b) a b
joined_is a b = fill_by_all _ _ _ false (length-append a b) (λ i h. joined_bit a b i (le_or_lt i (length a)))

-- a word that is cut or filled
extended_place : (u : Word) (n kept i : ℕ) (fill : Bool) → kept ≡ min (length u) n → i < n → (i < kept) ⊎ (kept ≤ i) → get_or (take kept u) i fill ≡ get_or u i fill
extended_place u n kept i fill e h (inl low) = get_or-take kept u i fill low
extended_place u n kept i fill e h (inr high) =
    get_or_past (take kept u) i fill (omega (arith, length-take kept u)) ∙ sym (get_or_past u i fill (omega arith))

pub extended_is : (u : Word) (n kept : ℕ) (fill : Bool) → kept ≡ min (length u) n → word n (λ i. get_or (take kept u) i fill) ≡ word n (λ i. get_or u i fill)
extended_is u n kept fill e = word-same n _ _ (λ i h. extended_place u n kept i fill e h (le_or_lt i kept))

-- a word moved down
lowered_place : (u : Word) (k lost i : ℕ) (fill : Bool) → lost ≡ min (length u) k → (k ≤ length u) ⊎ (length u < k) → get_or u (lost + i) fill ≡ get_or u (i + k) fill
lowered_place u k lost i fill e (inl within) = let same : lost + i ≡ i + k = omega arith in ap (λ j. get_or u j fill) same
lowered_place u k lost i fill e (inr beyond) = get_or_past u (lost + i) fill (omega arith) ∙ sym (get_or_past u (i + k) fill (omega arith))

within_or_beyond : (k n : ℕ) → (k ≤ n) ⊎ (n < k)
within_or_beyond k n = search arith

pub lowered_is : (u : Word) (k lost n : ℕ) (fill : Bool) → lost ≡ min (length u) k → word n (λ i. get_or (take (length u - lost) (drop lost u)) i fill) ≡ word n (λ i. get_or u (i + k) fill)
lowered_is u k lost n fill e = word-same n _ _ (λ i h. ap (λ v. get_or v i fill) (take_rest u lost) ∙ get_or-drop lost u i fill ∙ lowered_place u k lost i fill e (within_or_beyond k (length u)))

-- a word moved up
raised_bit : (a : Word) (k zeros i : ℕ) → zeros ≡ min (length a) k → i < length a → (i < zeros) ⊎ (zeros ≤ i) → bit (replicate zeros false ++ take (length a - zeros) a) i ≡ (nat_le k i && bit a (i - k))
raised_bit a k zeros i e h (inl low) =
    let t : nat_le k i ≡ false = grind (arith, nat_tests) in
    get_or_append_left (replicate zeros false) (take (length a - zeros) a) false i (omega (arith, length-replicate zeros false))
    ∙ get_or-replicate zeros i false false low
    ∙ ap (λ c. c && bit a (i - k)) (sym t)
raised_bit a k zeros i e h (inr high) =
    let t : nat_le k i ≡ true = grind (arith, nat_tests) in
    let same : zeros ≡ k = omega arith in
    get_or-append_right (replicate zeros false) (take (length a - zeros) a) zeros i false (length-replicate zeros false) high
    ∙ get_or-take (length a - zeros) a (i - zeros) false (omega arith)
    ∙ ap (λ j. bit a (i - j)) same
    ∙ ap (λ c. c && bit a (i - k)) (sym t)

pub raised_is : (a : Word) (k zeros : ℕ) → zeros ≡ min (length a) k → replicate zeros false ++ take (length a - zeros) a ≡ word (length a) (λ i. nat_le k i && bit a (i - k))
raised_is a k zeros e = fill_by_all (λ i. nat_le k i && bit a (i - k)) _ (length a) false
    (omega (arith, length-append (replicate zeros false) (take (length a - zeros) a), length-replicate zeros false, length-take-le (length a - zeros) a))
    (λ i h. raised_bit a k zeros i e h (le_or_lt i zeros))

-- a part of a word
pub slice_is : (a : Word) (at n : ℕ) → at + n ≤ length a → take n (drop at a) ≡ slice_word n at a
slice_is a at n h = fill_by_all (λ i. bit a (at + i)) _ n false
    (length-take-le n (drop at a) (omega (arith, length-drop at a)))
    (λ i l. get_or-take n (drop at a) i false l ∙ get_or-drop at a i false)

-- ---- numbers

pub double : (i : ℕ) → 2 ^ (i + 1) ≡ 2 * 2 ^ i
double i = let next : i + 1 ≡ suc i = omega arith in ap (λ k. 2 ^ k) next ∙ pow-succ' 2 i

-- room for one more digit below 2 ^ n
pub digit_fits : (i n total : ℕ) → i < n → total < 2 ^ i → total + 1 * 2 ^ i % 2 ^ n < 2 ^ n
digit_fits i n total h below =
    let shifted : 1 * 2 ^ i % 2 ^ n ≡ 2 ^ i = one_shl i n h in
    let power : 2 ^ (i + 1) ≤ 2 ^ n = pow_mono {i = i + 1} {j = n} (omega arith) in
    let twice : 2 ^ (i + 1) ≡ 2 * 2 ^ i = double i in
    omega arith

-- the number of the lowest bits
pub record IsNumberBelow (w : Word) (i total : ℕ) : Type 0 where
  pub value : total ≡ number (take i w)
  pub below : total < 2 ^ i

pub one_added : (w : Word) (i n total next : ℕ) → i < length w → i < n → IsNumberBelow w i total → bit w i ≡ true → next ≡ total + 1 * 2 ^ i % 2 ^ n → IsNumberBelow w (i + 1) next
one_added w i n total next h g so_far one made =
    let shifted : 1 * 2 ^ i % 2 ^ n ≡ 2 ^ i = one_shl i n g in
    let twice : 2 ^ (i + 1) ≡ 2 * 2 ^ i = double i in
    let more : number (take (i + 1) w) ≡ number (take i w) + 2 ^ i * bit_value (bit w i) = number-take_more w i h in
    let same : 2 ^ i * bit_value (bit w i) ≡ 2 ^ i * 1 = ap (λ b. 2 ^ i * bit_value b) one in
    record { value = omega (arith, so_far.value); below = omega (arith, so_far.below) }

pub none_added : (w : Word) (i total next : ℕ) → i < length w → IsNumberBelow w i total → bit w i ≡ false → next ≡ total → IsNumberBelow w (i + 1) next
none_added w i total next h so_far none made =
    let twice : 2 ^ (i + 1) ≡ 2 * 2 ^ i = double i in
    let more : number (take (i + 1) w) ≡ number (take i w) + 2 ^ i * bit_value (bit w i) = number-take_more w i h in
    let same : 2 ^ i * bit_value (bit w i) ≡ 2 ^ i * 0 = ap (λ b. 2 ^ i * bit_value b) none in
    record { value = omega (arith, so_far.value); below = omega (arith, so_far.below) }
