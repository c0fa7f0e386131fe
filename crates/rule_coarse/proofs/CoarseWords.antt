-- Words whose bits say where another word has its lowest or its highest 1.
use Rattle.std.specs.Prelude.{ℕ, zero, suc, ◌+◌, ◌-◌, ◌*◌, ◌/◌, ◌^◌, ◌<◌, ◌≤◌, ◌≡◌, ◌==◌, Bool, true, false, not, ◌||◌, [], ◌∷◌, length, take, drop, refl}
use Rattle.std.specs.List.{range_with_len}
use Rattle.std.proofs.Common.{arith, sym, ap, ◌∙◌}
use Rattle.std.proofs.Math.Nat.{div-one, div-div-eq-div-mul, pow-succ', zero-div}
use Rattle.std.proofs.lemmas.Bool.Decides.{nat_tests}
use Rattle.std.proofs.lemmas.List.{get_or-take, get_or-drop, length-drop, length-take-le}
use Rattle.std.proofs.lemmas.List.Folds.{list_any_more}
use Rattle.std.proofs.lemmas.Simd.{map-map}
use Rattle.cif_defs.specs.Words.{Word, bit, bit_value, digit, extend, has_one, majority, number, word, word_of, xor}
use Rattle.cif_defs.proofs.Agree.{has_none}
use Rattle.cif_defs.proofs.Exact.{true_by}
use Rattle.cif_defs.proofs.WordLaws.{bit-word, length-word, same_words}
use Rattle.cif_defs.proofs.WordNumbers.{digit-number, extend-same}
use Rattle.cif_defs.proofs.Numbers.{number_zero, word-same}
use Rattle.cif_defs.proofs.Sums.{bit-ripple, carry, ripple, word_of-sum}
use Rattle.cif_term.specs.declared.ops.Op1.TheVariants.{Not}
use Rattle.cif_term.specs.declared.ops.Op2.TheVariants.{Or, Add}
use Rattle.cif_term.specs.Formulas.{one_word, picked, two_word}
use Rattle.cif_term.proofs.ExactTaintWords.{same_tests}
use Rattle.rule_coarse.specs.CoarseFormulas.{ones, places_down}

-- ---- a word that has a 1

-- a place where a word is 1
pub record IsOneAt (w : Word) (i : ℕ) : Type 0 where
  pub inside : i < length w
  pub one : bit w i ≡ true

pub place_of_one : (w : Word) → has_one w ≡ true → (i : ℕ) × IsOneAt w i
place_of_one [] h = absurd (let e : false ≡ true = h in cc)
place_of_one (true ∷ w) h = (0, record { inside = omega arith; one = refl })
place_of_one (false ∷ w) h =
    let rest = place_of_one w h in
    let inside : rest.0 < length w = (let p = rest.1 in p.inside) in
    (suc rest.0, record { inside = omega arith; one = (let p = rest.1 in p.one) })

pub one_at : (w : Word) (i : ℕ) → bit w i ≡ true → has_one w ≡ true
one_at [] i h = absurd (let e : false ≡ true = h in cc)
one_at (true ∷ w) i h = refl
one_at (false ∷ w) zero h = absurd (let e : false ≡ true = h in cc)
one_at (false ∷ w) (suc i) h = one_at w i h

-- ---- the places from the lowest 1 on

carry_or : (a c : Bool) → majority a true c ≡ (c || a)
carry_or true true = refl
carry_or true false = refl
carry_or false true = refl
carry_or false false = refl

-- where all ones are added, a carry goes on from the lowest 1
pub carry-ones : (w : Word) (i : ℕ) → i ≤ length w → carry false w (ones (length w)) i ≡ has_one (take i w)
carry-ones w zero h = refl
carry-ones w (suc i) h =
    let below : carry false w (ones (length w)) i ≡ has_one (take i w) = carry-ones w i (omega arith) in
    let next : i + 1 ≡ suc i = omega arith in
    ap (λ b. majority (bit w i) b (carry false w (ones (length w)) i)) (bit-word (length w) (λ k. true) i false (omega arith))
    ∙ ap (majority (bit w i) true) below ∙ carry_or (bit w i) (has_one (take i w))
    ∙ sym (list_any_more (λ b. b) w i false (omega arith)) ∙ ap (λ k. has_one (take k w)) next

lower_or : (a c : Bool) → (a || not (xor (xor a true) c)) ≡ (c || a)
lower_or true true = refl
lower_or true false = refl
lower_or false true = refl
lower_or false false = refl

-- a word less 1, as the sum with all ones
less_one : (w : Word) → two_word Add w (ones (length w)) ≡ ripple false w (ones (length w))
less_one w =
    let long : length (ones (length w)) ≡ length w = length-word (length w) (λ k. true) in
    ap (λ (u : Word). word_of (length w) (number u + number (extend (length w) false (ones (length w))))) (extend-same (length w) false w refl)
    ∙ ap (λ (u : Word). word_of (length w) (number w + number u)) (extend-same (length w) false (ones (length w)) long)
    ∙ ap (word_of (length w)) (omega arith) ∙ word_of-sum w (ones (length w)) false long

length-less : (w : Word) → length (two_word Add w (ones (length w))) ≡ length w
length-less w = length-word (length w) _

bit-less : (w : Word) (i : ℕ) → i < length w → bit (two_word Add w (ones (length w))) i ≡ xor (xor (bit w i) true) (has_one (take i w))
bit-less w i h =
    ap (λ (u : Word). bit u i) (less_one w) ∙ bit-ripple false w (ones (length w)) i (length-word (length w) (λ k. true)) h
    ∙ ap (λ b. xor (xor (bit w i) b) (carry false w (ones (length w)) i)) (bit-word (length w) (λ k. true) i false h)
    ∙ ap (xor (xor (bit w i) true)) (carry-ones w i (omega arith))

pub risen : (w : Word) → two_word Or w (one_word Not (two_word Add w (ones (length w)))) ≡ word (length w) (λ i. has_one (take (i + 1) w))
risen w = word-same (length w) _ _ (λ i h.
    ap (λ b. bit w i || b) (bit-word (length (two_word Add w (ones (length w)))) (λ k. not (bit (two_word Add w (ones (length w))) k)) i false (omega (arith, length-less w)))
    ∙ ap (λ b. bit w i || not b) (bit-less w i h) ∙ lower_or (bit w i) (has_one (take i w)) ∙ sym (list_any_more (λ b. b) w i false h))

-- ---- the places up to the highest 1

pub picked-down : (m : ℕ) (w : Word) → picked (places_down m) w ≡ word m (λ i. bit w (m - 1 - i))
picked-down m w = map-map (bit w) (λ i. m - 1 - i) (range_with_len 0 m)

-- a word of m bits, highest first
abbrev pub down : ℕ → Word → Word
down m w = word m (λ i. bit w (m - 1 - i))

bit-taken : (j : ℕ) (w : Word) (k : ℕ) → k < j → bit (take j w) k ≡ bit w k
bit-taken j w k h = get_or-take j w k false h

above_from_below : (m i : ℕ) (w : Word) → length w ≡ m → i < m → has_one (take (m - 1 - i + 1) (down m w)) ≡ true → has_one (drop i w) ≡ true
above_from_below m i w e h t =
    let found = place_of_one (take (m - 1 - i + 1) (down m w)) t in
    let j : ℕ = found.0 in
    let one : bit (take (m - 1 - i + 1) (down m w)) j ≡ true = (let p = found.1 in p.one) in
    let short : length (take (m - 1 - i + 1) (down m w)) ≡ m - 1 - i + 1 = length-take-le (m - 1 - i + 1) (down m w) (omega (arith, length-word m (λ k. bit w (m - 1 - k)))) in
    let low : j < m - 1 - i + 1 = (let p = found.1 in let l = p.inside in omega arith) in
    let place : i + (m - 1 - j - i) ≡ m - 1 - j = omega arith in
    one_at (drop i w) (m - 1 - j - i)
    (get_or-drop i w (m - 1 - j - i) false ∙ ap (bit w) place ∙ sym (bit-word m (λ k. bit w (m - 1 - k)) j false (omega arith)) ∙ sym (bit-taken (m - 1 - i + 1) (down m w) j low) ∙ one)

below_from_above : (m i : ℕ) (w : Word) → length w ≡ m → i < m → has_one (drop i w) ≡ true → has_one (take (m - 1 - i + 1) (down m w)) ≡ true
below_from_above m i w e h t =
    let found = place_of_one (drop i w) t in
    let j : ℕ = found.0 in
    let one : bit (drop i w) j ≡ true = (let p = found.1 in p.one) in
    let low : i + j < m = (let p = found.1 in let l : j < length (drop i w) = p.inside in omega (arith, length-drop i w)) in
    let place : m - 1 - (m - 1 - (i + j)) ≡ i + j = omega arith in
    one_at (take (m - 1 - i + 1) (down m w)) (m - 1 - (i + j))
    (bit-taken (m - 1 - i + 1) (down m w) (m - 1 - (i + j)) (omega arith) ∙ bit-word m (λ k. bit w (m - 1 - k)) (m - 1 - (i + j)) false (omega arith)
    ∙ ap (bit w) place ∙ sym (get_or-drop i w j false) ∙ one)

-- from the highest down to place i, and from place i up
pub down_to : (m i : ℕ) (w : Word) → length w ≡ m → i < m → has_one (take (m - 1 - i + 1) (down m w)) ≡ has_one (drop i w)
down_to m i w e h = same_tests _ _ (above_from_below m i w e h) (below_from_above m i w e h)

-- ---- where two words differ

value_small : (b : Bool) → bit_value b ≤ 1
value_small true = omega arith
value_small false = omega arith

xor_same : (a b : Bool) → xor a b ≡ false → a ≡ b
xor_same true true h = refl
xor_same true false h = absurd (cc)
xor_same false true h = absurd (cc)
xor_same false false h = refl

xor_self : (a b : Bool) → a ≡ b → xor a b ≡ false
xor_self true b e = ap not (sym e)
xor_self false b e = sym e

-- the places where two words differ
abbrev pub difference : Word → Word → Word
difference u v = word (length u) (λ k. xor (bit u k) (bit v k))

differ_somewhere : (u v : Word) → length v ≡ length u → not (number u == number v) ≡ true → has_one (difference u v) ≡ true
differ_somewhere u v e h = true_by (has_one (difference u v)) (λ none.
    let same : u ≡ v = same_words u v (sym e) (λ i l. xor_same (bit u i) (bit v i) (sym (bit-word (length u) (λ k. xor (bit u k) (bit v k)) i false l) ∙ has_none (difference u v) none i)) in
    let numbers : number u ≡ number v = ap number same in
    (grind (arith, nat_tests)))

differ_as_numbers : (u v : Word) → has_one (difference u v) ≡ true → not (number u == number v) ≡ true
differ_as_numbers u v h = true_by (not (number u == number v)) (λ same.
    let numbers : number u ≡ number v = grind (arith, nat_tests) in
    let found = place_of_one (difference u v) h in
    let i : ℕ = found.0 in
    let one : bit (difference u v) i ≡ true = (let p = found.1 in p.one) in
    let inside : i < length u = (let p = found.1 in let l = p.inside in omega (arith, length-word (length u) (λ k. xor (bit u k) (bit v k)))) in
    let bits : bit u i ≡ bit v i = sym (digit-number u i) ∙ ap (λ x. digit x i) numbers ∙ digit-number v i in
    let none : bit (difference u v) i ≡ false = bit-word (length u) (λ k. xor (bit u k) (bit v k)) i false inside ∙ xor_self (bit u i) (bit v i) bits in
    absurd (cc))

number_differ : (u v : Word) → length v ≡ length u → not (number u == number v) ≡ has_one (difference u v)
number_differ u v e = same_tests _ _ (differ_somewhere u v e) (differ_as_numbers u v)

number-drop : (i : ℕ) (w : Word) → number w / 2 ^ i ≡ number (drop i w)
number-drop zero w = div-one (number w)
number-drop (suc i) [] = zero-div (2 ^ suc i)
number-drop (suc i) (b ∷ w) =
    let half : (bit_value b + 2 * number w) / 2 ≡ number w = (let one : bit_value b ≤ 1 = value_small b in omega arith) in
    ap (λ k. (bit_value b + 2 * number w) / k) (pow-succ' 2 i) ∙ sym (div-div-eq-div-mul (bit_value b + 2 * number w) 2 (2 ^ i)) ∙ ap (λ k. k / 2 ^ i) half ∙ number-drop i w

difference-drop : (i : ℕ) (u v : Word) → length v ≡ length u → difference (drop i u) (drop i v) ≡ drop i (difference u v)
difference-drop i u v e = same_words _ _
    (length-word (length (drop i u)) _ ∙ (omega (arith, length-drop i u, length-drop i (difference u v), length-word (length u) (λ k. xor (bit u k) (bit v k)))))
    (λ k h.
    let l : k < length (drop i u) = omega (arith, length-word (length (drop i u)) (λ j. xor (bit (drop i u) j) (bit (drop i v) j))) in
    bit-word (length (drop i u)) (λ j. xor (bit (drop i u) j) (bit (drop i v) j)) k false l
    ∙ ap (λ b. xor b (bit (drop i v) k)) (get_or-drop i u k false) ∙ ap (xor (bit u (i + k))) (get_or-drop i v k false)
    ∙ sym (bit-word (length u) (λ j. xor (bit u j) (bit v j)) (i + k) false (omega (arith, length-drop i u)))
    ∙ sym (get_or-drop i (difference u v) k false))

-- two numbers differ from place i up where their words do
pub quotients_differ : (i : ℕ) (u v : Word) → length v ≡ length u → not (number u / 2 ^ i == number v / 2 ^ i) ≡ has_one (drop i (difference u v))
quotients_differ i u v e =
    ap (λ x. not (x == number v / 2 ^ i)) (number-drop i u) ∙ ap (λ x. not (number (drop i u) == x)) (number-drop i v)
    ∙ number_differ (drop i u) (drop i v) (omega (arith, length-drop i u, length-drop i v)) ∙ ap has_one (difference-drop i u v e)

-- a word has a 1 where its number isn't 0
pub some_number : (w : Word) → has_one w ≡ not (number w == 0)
some_number w = same_tests _ _ (one_counts w) (counts_one w) where
  one_counts : (w : Word) → has_one w ≡ true → not (number w == 0) ≡ true
  one_counts [] h = absurd (let e : false ≡ true = h in cc)
  one_counts (true ∷ w) h = grind (arith, nat_tests)
  one_counts (false ∷ w) h = let rest : not (number w == 0) ≡ true = one_counts w h in grind (arith, nat_tests)

  counts_one : (w : Word) → not (number w == 0) ≡ true → has_one w ≡ true
  counts_one w h = true_by (has_one w) (λ none. let z : number w ≡ 0 = number_zero w (has_none w none) in (grind (arith, nat_tests)))
