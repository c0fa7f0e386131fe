-- Majorities and parities on numbers.
use Rattle.std.specs.Prelude.{ℕ, ◌<◌, ◌≡◌, ◌^◌, Bool, true, false, not, ◌&&◌, ◌||◌, bit_and, bit_or, bit_xor, length, refl}
use Rattle.std.proofs.Common.{arith, ap, ◌∙◌}
use Rattle.std.proofs.lemmas.Nat.{or_lt, xor_lt}
use Rattle.cif_defs.specs.Coarse.{max_word, min_word}
use Rattle.cif_defs.specs.Meanings.{fa_majority_word, fa_sum_word, not_word}
use Rattle.cif_defs.specs.Words.{Word, bit, digit, majority, word, word_of, xor}
use Rattle.cif_defs.proofs.Numbers.{word-same}
use Rattle.cif_defs.proofs.WordLaws.{bit-word, length-word}
use Rattle.word_logic.specs.LogicWords.{highest_carry, lowest_carry, parity_taint}
use Rattle.word_numbers.proofs.Digits.{and_lt, word_of-and_by, word_of-or_by, word_of-xor_by}
use Rattle.word_logic.proofs.Bitwise.{by_bits, own_bits}

majority_again : (a b c : Bool) → ((a && b) || (c && (a || b))) ≡ majority a b c
majority_again true true true = refl
majority_again true true false = refl
majority_again true false true = refl
majority_again true false false = refl
majority_again false true true = refl
majority_again false true false = refl
majority_again false false true = refl
majority_again false false false = refl

pub word_of-majority : (n a b c : ℕ) → word_of n (bit_or (bit_and a b) (bit_and c (bit_or a b))) ≡ fa_majority_word n (word_of n a) (word_of n b) (word_of n c)
word_of-majority n a b c =
    let f : ℕ → Bool = bit (word_of n a) in
    let g : ℕ → Bool = bit (word_of n b) in
    let h : ℕ → Bool = bit (word_of n c) in
    word_of-or_by n (bit_and a b) (bit_and c (bit_or a b)) (λ i. f i && g i) (λ i. h i && (f i || g i))
    (word_of-and_by n a b f g (own_bits n a) (own_bits n b))
    (word_of-and_by n c (bit_or a b) h (λ i. f i || g i) (own_bits n c) (word_of-or_by n a b f g (own_bits n a) (own_bits n b)))
    ∙ word-same n _ _ (λ i l. majority_again (bit (word_of n a) i) (bit (word_of n b) i) (bit (word_of n c) i))

pub majority-fits : (n a b c : ℕ) → a < 2 ^ n → b < 2 ^ n → c < 2 ^ n → bit_or (bit_and a b) (bit_and c (bit_or a b)) < 2 ^ n
majority-fits n a b c h l m = or_lt n _ _ (and_lt n a b h) (and_lt n c (bit_or a b) m)

pub word_of-sum : (n a b c : ℕ) → word_of n (bit_xor (bit_xor a b) c) ≡ fa_sum_word n (word_of n a) (word_of n b) (word_of n c)
word_of-sum n a b c =
    word_of-xor_by n (bit_xor a b) c (λ i. xor (bit (word_of n a) i) (bit (word_of n b) i)) (bit (word_of n c))
    (word_of-xor_by n a b (bit (word_of n a)) (bit (word_of n b)) (own_bits n a) (own_bits n b)) (own_bits n c)

pub sum-fits : (n a b c : ℕ) → a < 2 ^ n → b < 2 ^ n → c < 2 ^ n → bit_xor (bit_xor a b) c < 2 ^ n
sum-fits n a b c h l m = xor_lt n _ _ (xor_lt n a b h l) m

pub word_of-turned : (n a b c : ℕ) → word_of n (bit_or a (bit_or b c)) ≡ parity_taint n (word_of n a) (word_of n b) (word_of n c)
word_of-turned n a b c =
    word_of-or_by n a (bit_or b c) (bit (word_of n a)) (λ i. bit (word_of n b) i || bit (word_of n c) i) (own_bits n a)
    (word_of-or_by n b c (bit (word_of n b)) (bit (word_of n c)) (own_bits n b) (own_bits n c))

pub turned-fits : (n a b c : ℕ) → a < 2 ^ n → b < 2 ^ n → c < 2 ^ n → bit_or a (bit_or b c) < 2 ^ n
turned-fits n a b c h l m = or_lt n _ _ h (or_lt n _ _ l m)

-- ---- with tainted bits set, and cleared

long : (n x : ℕ) → length (word_of n x) ≡ n
long n x = length-word n (λ i. digit x i)

max_bit : (n v t i : ℕ) → i < n → bit (max_word (word_of n v) (word_of n t)) i ≡ (bit (word_of n v) i || bit (word_of n t) i)
max_bit n v t i h = bit-word (length (word_of n v)) (λ j. bit (word_of n v) j || bit (word_of n t) j) i false (omega (arith, long n v))

min_bit : (n v t i : ℕ) → i < n → bit (min_word (word_of n v) (word_of n t)) i ≡ (bit (word_of n v) i && not (bit (word_of n t) i))
min_bit n v t i h = bit-word (length (word_of n v)) (λ j. bit (word_of n v) j && not (bit (word_of n t) j)) i false (omega (arith, long n v))

majority_by : (n : ℕ) (u v w : Word) (f g h : ℕ → Bool) → ((i : ℕ) → i < n → bit u i ≡ f i) → ((i : ℕ) → i < n → bit v i ≡ g i) → ((i : ℕ) → i < n → bit w i ≡ h i)
    → fa_majority_word n u v w ≡ word n (λ i. majority (f i) (g i) (h i))
majority_by n u v w f g h a b c = word-same n _ _ (λ i l. ap (λ x. majority x (bit v i) (bit w i)) (a i l) ∙ ap (λ y. majority (f i) y (bit w i)) (b i l) ∙ ap (majority (f i) (g i)) (c i l))

same_majority : (n r : ℕ) (u v w x y z : Word) → x ≡ u → y ≡ v → z ≡ w → word_of n r ≡ fa_majority_word n x y z → word_of n r ≡ fa_majority_word n u v w
same_majority n r u v w x y z a b c e =
    e ∙ ap (λ (q : Word). fa_majority_word n q y z) a ∙ ap (λ (q : Word). fa_majority_word n u q z) b ∙ ap (λ (q : Word). fa_majority_word n u v q) c

pub highest-is : (n a t b u c v x y z r : ℕ) → word_of n x ≡ max_word (word_of n a) (word_of n t) → word_of n y ≡ max_word (word_of n b) (word_of n u) → word_of n z ≡ max_word (word_of n c) (word_of n v)
    → word_of n r ≡ fa_majority_word n (word_of n x) (word_of n y) (word_of n z) → word_of n r ≡ highest_carry n (word_of n a) (word_of n t) (word_of n b) (word_of n u) (word_of n c) (word_of n v)
highest-is n a t b u c v x y z r e f g h =
    same_majority n r _ _ _ _ _ _ e f g h ∙ majority_by n _ _ _ (λ i. bit (word_of n a) i || bit (word_of n t) i) (λ i. bit (word_of n b) i || bit (word_of n u) i) (λ i. bit (word_of n c) i || bit (word_of n v) i)
    (max_bit n a t) (max_bit n b u) (max_bit n c v)

pub lowest-is : (n a t b u c v x y z r : ℕ) → word_of n x ≡ min_word (word_of n a) (word_of n t) → word_of n y ≡ min_word (word_of n b) (word_of n u) → word_of n z ≡ min_word (word_of n c) (word_of n v)
    → word_of n r ≡ fa_majority_word n (word_of n x) (word_of n y) (word_of n z) → word_of n r ≡ lowest_carry n (word_of n a) (word_of n t) (word_of n b) (word_of n u) (word_of n c) (word_of n v)
lowest-is n a t b u c v x y z r e f g h =
    same_majority n r _ _ _ _ _ _ e f g h ∙ majority_by n _ _ _ (λ i. bit (word_of n a) i && not (bit (word_of n t) i)) (λ i. bit (word_of n b) i && not (bit (word_of n u) i)) (λ i. bit (word_of n c) i && not (bit (word_of n v) i))
    (min_bit n a t) (min_bit n b u) (min_bit n c v)

-- where the one is 1 and the other 0
pub open-is : (n h l c : ℕ) (u v : Word) → word_of n h ≡ u → word_of n l ≡ v → word_of n c ≡ not_word n false (word_of n l) → word_of n (bit_and h c) ≡ word n (λ i. bit u i && not (bit v i))
open-is n h l c u v e f g =
    word_of-and_by n h c (bit u) (λ i. not (bit v i)) (by_bits n h u e) (g ∙ ap (λ (w : Word). word n (λ i. not (bit w i))) f)
