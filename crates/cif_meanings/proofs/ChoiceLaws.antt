-- Blocks of words, as the words that choosing cells give.
use Rattle.std.specs.Prelude.{ℕ, ◌+◌, ◌-◌, ◌*◌, ◌/◌, ◌%◌, ◌^◌, ◌<◌, ◌≤◌, ◌≡◌, ◌⊎◌, ◌==◌, true, false, ◌&&◌, length, nat_le, position, Option, Some, None}
use Rattle.std.proofs.Common.{arith, sym, ap, ◌∙◌, inl, inr}
use Rattle.std.proofs.lemmas.Bool.Decides.{nat_tests}
use Rattle.std.proofs.lemmas.List.{get_or_past}
use Rattle.std.proofs.Math.Nat.{mul-le-mul_left, mul-le-mul_right}
use Rattle.std.proofs.Math.Pow.{pow_mono}
use Rattle.cif_defs.specs.Words.{Word, bit, word, extend, number}
use Rattle.cif_defs.specs.Meanings.{pmux_word, pmux_bit, slice_word, demux_word}
use Rattle.cif_defs.proofs.WordLaws.{bit-word, length-word, le_or_lt}
use Rattle.cif_defs.proofs.Numbers.{word-same}
use Rattle.cif_meanings.proofs.MeaningLaws.{own_bits}

-- ---- $pmux

pub pmux_some : (n : ℕ) (a b s : Word) (k : ℕ) → position (λ x. x) s ≡ Some k → slice_word n (k * n) b ≡ pmux_word n a b s
pmux_some n a b s k e = ap (λ (o : Option ℕ). word n (λ i. pmux_bit n a b i o)) (sym e)

pub pmux_none : (n : ℕ) (a b s : Word) → length a ≡ n → position (λ x. x) s ≡ None → a ≡ pmux_word n a b s
pmux_none n a b s h e = own_bits n a h ∙ ap (λ (o : Option ℕ). word n (λ i. pmux_bit n a b i o)) (sym e)

-- ---- numbers of blocks

pub block_inside : (k m n : ℕ) → k < m → k * n + n ≤ n * m
block_inside k m n h = let more : n * (k + 1) ≤ n * m = mul-le-mul_left n (omega arith) in omega arith

-- a word of at most 65,536 bits has no more than 2 ^ 16 blocks
pub few_blocks : (n m : ℕ) → 1 ≤ n → n * 2 ^ m ≤ 65536 → 2 ^ m ≤ 65536
few_blocks n m h l = let one : 1 * 2 ^ m ≤ n * 2 ^ m = mul-le-mul_right (2 ^ m) h in omega arith

pub narrow : (m : ℕ) → 2 ^ m ≤ 65536 → m ≤ 16
narrow m h = elim (le_or_lt m 17) [
  | inl l ↦ omega arith
  | inr l ↦ absurd (let large : 2 ^ 17 ≤ 2 ^ m = pow_mono {i = 17} {j = m} l in omega arith)
]

-- ---- $demux

order : (i j : ℕ) → (i ≡ j) ⊎ ((i < j) ⊎ (j < i))
order i j = search arith

demux_bit : (n : ℕ) (a : Word) (k i : ℕ) → 1 ≤ n → length a ≡ n → (i / n ≡ k) ⊎ ((i / n < k) ⊎ (k < i / n)) → (nat_le (k * n) i && bit a (i - k * n)) ≡ (i / n == k && bit a (i % n))
demux_bit n a k i h e (inl same) =
    let whole : n * (i / n) + i % n ≡ i = omega arith in
    let product : n * (i / n) ≡ n * k = ap (λ j. n * j) same in
    let low : nat_le (k * n) i ≡ true = (let at_most : k * n ≤ i = omega arith in grind (arith, nat_tests)) in
    let equal : (i / n == k) ≡ true = grind (arith, nat_tests) in
    let rest : i - k * n ≡ i % n = omega arith in
    ap (λ t. t && bit a (i - k * n)) low ∙ ap (bit a) rest ∙ sym (ap (λ t. t && bit a (i % n)) equal)
demux_bit n a k i h e (inr (inl less)) =
    let whole : n * (i / n) + i % n ≡ i = omega arith in
    let product : n * (i / n + 1) ≤ n * k = mul-le-mul_left n (omega arith) in
    let low : nat_le (k * n) i ≡ false = (let below : i < k * n = omega arith in grind (arith, nat_tests)) in
    let unequal : (i / n == k) ≡ false = grind (arith, nat_tests) in
    ap (λ t. t && bit a (i - k * n)) low ∙ sym (ap (λ t. t && bit a (i % n)) unequal)
demux_bit n a k i h e (inr (inr more)) =
    let whole : n * (i / n) + i % n ≡ i = omega arith in
    let product : n * (k + 1) ≤ n * (i / n) = mul-le-mul_left n (omega arith) in
    let low : nat_le (k * n) i ≡ true = (let at_most : k * n ≤ i = omega arith in grind (arith, nat_tests)) in
    let past : bit a (i - k * n) ≡ false = get_or_past a (i - k * n) false (omega arith) in
    let unequal : (i / n == k) ≡ false = grind (arith, nat_tests) in
    ap (λ t. t && bit a (i - k * n)) low ∙ past ∙ sym (ap (λ t. t && bit a (i % n)) unequal)

pub demux_is : (n m total by : ℕ) (a s x : Word) → 1 ≤ n → length a ≡ n → total ≡ n * 2 ^ m → x ≡ extend total false a → by ≡ number s * n
    → word (length x) (λ i. nat_le by i && bit x (i - by)) ≡ demux_word n m a s
demux_is n m total by a s x h e t g b =
    ap (λ (v : Word). word (length v) (λ i. nat_le by i && bit v (i - by))) g
    ∙ ap (λ k. word k (λ i. nat_le by i && bit (extend total false a) (i - by))) (length-word total (λ i. bit a i) ∙ t)
    ∙ word-same (n * 2 ^ m) _ _ (λ i l.
    ap (λ v. nat_le by i && v) (bit-word total (λ j. bit a j) (i - by) false (omega arith))
    ∙ ap (λ k. nat_le k i && bit a (i - k)) b
    ∙ demux_bit n a (number s) i h e (order (i / n) (number s)))
