-- The coarse taint of products and divisions, on numbers.
use Rattle.std.specs.Prelude.{ℕ, ◌+◌, ◌/◌, ◌%◌, ◌^◌, ◌<◌, ◌≤◌, ◌≡◌, ◌==◌, Bool, true, false, not, ◌&&◌, ◌||◌, bit_and, bit_or, bit_xor, length, take, drop, if◌then◌else◌, refl}
use Rattle.std.proofs.Common.{arith, sym, ap, ◌∙◌, inl, inr}
use Rattle.std.proofs.lemmas.Bool.Decides.{nat_tests}
use Rattle.std.proofs.Math.Nat.{mod-eq_of_lt}
use Rattle.cif_defs.specs.Coarse.{either_taint, high_quotient, is_known_zero, low_quotient, max_word, min_word}
use Rattle.cif_defs.specs.Meanings.{add_word, not_word, or_word}
use Rattle.cif_defs.specs.Words.{Word, bit, digit, extend, has_one, number, word, word_of, xor}
use Rattle.cif_defs.proofs.Numbers.{number_mono, word-same}
use Rattle.cif_defs.proofs.WordLaws.{bit-word, le_or_lt, length-word, past_word}
use Rattle.cif_defs.proofs.WordNumbers.{extend-same, number-word_of}
use Rattle.cif_arith.proofs.Meanings.{word_of-add}
use Rattle.rule_coarse.specs.CoarseFormulas.{ones}
use Rattle.rule_coarse.proofs.CoarseWords.{difference, quotients_differ, risen, some_number}
use Rattle.word_numbers.specs.HeldWords.{filled_word}
use Rattle.word_numbers.proofs.Digits.{word_of-or}
use Rattle.word_sums.specs.declared.bounds.Bounds.{Bounds}
use Rattle.word_sums.specs.declared.shape.Pair.{Pair}
use Rattle.word_sums.specs.declared.shape.Shape.{Shape}
use Rattle.word_sums.specs.BoundNumbers.{bounds_of}
use Rattle.word_sums.specs.CoarseWords.{divides_of, division_taint_of, product_taint_of, quotient_taint_of}
use Rattle.word_sums.proofs.HeldNumbers.{Holds, holds_and, holds_or, holds_word, holds_xor, own_bits, word_holds}

-- ---- words with their tainted bits set and cleared

pub max_held : (n v t : ℕ) → max_word (word_of n v) (word_of n t) ≡ word_of n (bit_or v t)
max_held n v t =
    ap (λ k. word k (λ i. bit (word_of n v) i || bit (word_of n t) i)) (length-word n _)
    ∙ word-same n _ _ (λ i l. ap (λ b. b || bit (word_of n t) i) (bit-word n (digit v) i false l) ∙ ap (λ b. digit v i || b) (bit-word n (digit t) i false l))
    ∙ sym (holds_word n (bit_or v t) _ (holds_or (own_bits n v) (own_bits n t)))

twice_not : (b : Bool) → b ≡ not (not b)
twice_not true = refl
twice_not false = refl

-- ---- divisions

pub divides_is : (s : Shape) (v t : Pair) (x y z : Bool) → x ≡ has_one (word_of s.a t.a) → y ≡ has_one (word_of s.b t.b) → z ≡ has_one (word_of s.b (bit_or v.b t.b)) → ((x || y) && z) ≡ divides_of s v t
divides_is s v t x y z e f g =
    ap (λ b. (b || y) && z) e ∙ ap (λ b. (has_one (word_of s.a t.a) || b) && z) f
    ∙ ap (λ b. (has_one (word_of s.a t.a) || has_one (word_of s.b t.b)) && b) (g ∙ sym (ap has_one (max_held s.b v.b t.b)))

pub division_taint_is : (s : Shape) (v t : Pair) (r : ℕ) (d : Bool) → d ≡ divides_of s v t → word_of s.y r ≡ word s.y (λ i. d) → word_of s.y r ≡ division_taint_of s v t
unfolding division_taint_of
division_taint_is s v t r d e h =
    h ∙ ap (λ b. word s.y (λ i. b)) e
    ∙ ap (λ b. word s.y (λ i. (has_one (word_of s.a t.a) || has_one (word_of s.b t.b)) && b)) (twice_not (has_one (max_word (word_of s.b v.b) (word_of s.b t.b))))

-- ---- from the lowest 1 on

pub from_lowest_is : (n x m u c : ℕ) → x < 2 ^ n → m < 2 ^ n → word_of n m ≡ word n (λ i. true) → u ≡ (x + m) % 2 ^ n → word_of n c ≡ not_word n false (word_of n u)
    → word_of n (bit_or x c) ≡ word n (λ i. has_one (take (i + 1) (word_of n x)))
from_lowest_is n x m u c h k w e g =
    let v : Word = word_of n x in
    let long : length v ≡ n = length-word n _ in
    let sum : word_of n u ≡ add_word n false v (ones n) =
    word_of-add n false v (word_of n m) x m u (whole n x h) (whole n m k) e ∙ ap (λ (z : Word). add_word n false v z) w in
    word_of-or n x c ∙ ap (λ (z : Word). or_word n false v z) (g ∙ ap (λ (z : Word). not_word n false z) sum)
    ∙ ap (λ j. or_word n false v (not_word j false (add_word n false v (ones n)))) (sym (length-word n _))
    ∙ ap (λ j. or_word j false v (not_word (length (add_word j false v (ones j))) false (add_word j false v (ones j)))) (sym long)
    ∙ risen v ∙ ap (λ j. word j (λ i. has_one (take (i + 1) v))) long
  where
    whole : (n x : ℕ) → x < 2 ^ n → x ≡ number (extend n false (word_of n x))
    whole n x h = sym (ap number (extend-same n false (word_of n x) (length-word n _)) ∙ number-word_of n x ∙ mod-eq_of_lt h)

-- ---- products

-- an operand of m bits, v with taint t, extended to n bits
pub record IsExtended (n : ℕ) (signed : Bool) (m v t x y : ℕ) : Type 0 where
  pub value : word_of n x ≡ extend n signed (word_of m v)
  pub taint : word_of n y ≡ extend n signed (word_of m t)

factor_is : (n m v t x y : ℕ) (signed : Bool) (r : Bool) → IsExtended n signed m v t x y → r ≡ has_one (word_of n (bit_or x y)) → r ≡ not (is_known_zero (extend n signed (word_of m v)) (extend n signed (word_of m t)))
factor_is n m v t x y signed r h e =
    e ∙ sym (ap has_one (max_held n x y)) ∙ ap (λ (w : Word). has_one (max_word w (word_of n y))) h.value ∙ ap (λ (w : Word). has_one (max_word (extend n signed (word_of m v)) w)) h.taint
    ∙ twice_not _

either_held : (n a b v t x y : ℕ) (signed : Bool) → word_of n x ≡ extend n signed (word_of a v) → word_of n y ≡ extend n signed (word_of b t) → word_of n (bit_or x y) ≡ either_taint n signed (word_of a v) (word_of b t)
either_held n a b v t x y signed e f = holds_word n (bit_or x y) _ (holds_or (word_holds n x _ e) (word_holds n y _ f))

and_last : (a b c : Bool) → (c && (a && b)) ≡ (a && b && c)
and_last true true c = and_true c
  where
    and_true : (c : Bool) → (c && true) ≡ c
    and_true true = refl
    and_true false = refl
and_last true false true = refl
and_last true false false = refl
and_last false b true = refl
and_last false b false = refl

pub product_taint_is : (s : Shape) (v t : Pair) (xa ya xb yb p k : ℕ) (f g : Bool) → IsExtended s.y s.signed s.a v.a t.a xa ya → IsExtended s.y s.signed s.b v.b t.b xb yb
    → f ≡ has_one (word_of s.y (bit_or xa ya)) → g ≡ has_one (word_of s.y (bit_or xb yb))
    → word_of s.y p ≡ word s.y (λ i. has_one (take (i + 1) (word_of s.y (bit_or ya yb)))) → word_of s.y k ≡ word s.y (λ i. f && g) → word_of s.y (bit_and p k) ≡ product_taint_of s v t
unfolding product_taint_of
product_taint_is s v t xa ya xb yb p k f g h l e q places all =
    let za : Bool = not (is_known_zero (extend s.y s.signed (word_of s.a v.a)) (extend s.y s.signed (word_of s.a t.a))) in
    let zb : Bool = not (is_known_zero (extend s.y s.signed (word_of s.b v.b)) (extend s.y s.signed (word_of s.b t.b))) in
    holds_word s.y (bit_and p k) _ (holds_and (word_holds s.y p _ places) (word_holds s.y k _ all))
    ∙ ap (λ (w : Word). word s.y (λ i. has_one (take (i + 1) w) && (f && g))) (either_held s.y s.a s.b t.a t.b ya yb s.signed h.taint l.taint)
    ∙ ap (λ b. word s.y (λ i. has_one (take (i + 1) (either_taint s.y s.signed (word_of s.a t.a) (word_of s.b t.b))) && (b && g))) (factor_is s.y s.a v.a t.a xa ya s.signed f h e)
    ∙ ap (λ b. word s.y (λ i. has_one (take (i + 1) (either_taint s.y s.signed (word_of s.a t.a) (word_of s.b t.b))) && (za && b))) (factor_is s.y s.b v.b t.b xb yb s.signed g l q)
    ∙ word-same s.y _ _ (λ i j. and_last za zb _)

-- ---- quotients

min_held : (n v t : ℕ) → number (min_word (word_of n v) (word_of n t)) ≡ (bounds_of n v t).least
min_held n v t = ap number (
    ap (λ k. word k (λ i. bit (word_of n v) i && not (bit (word_of n t) i))) (length-word n _)
    ∙ word-same n _ _ (λ i l. ap (λ b. b && not (bit (word_of n t) i)) (bit-word n (digit v) i false l) ∙ ap (λ b. digit v i && not b) (bit-word n (digit t) i false l)))

largest_held : (n v t : ℕ) → number (max_word (word_of n v) (word_of n t)) ≡ (bounds_of n v t).greatest
largest_held n v t = ap number (max_held n v t ∙ holds_word n (bit_or v t) _ (holds_or (own_bits n v) (own_bits n t)))

-- the least word has no greater number
grows : (x t : Bool) → (x && not t) ≡ true → (x || t) ≡ true
grows true t h = refl
grows false t h = absurd (cc)

least_below : (n v t : ℕ) → (bounds_of n v t).least ≤ (bounds_of n v t).greatest
least_below n v t = number_mono (word n (λ i. digit v i && not (digit t i))) (word n (λ i. digit v i || digit t i)) (length-word n _ ∙ sym (length-word n _)) (λ i h. elim (le_or_lt i n) [
  | inl l ↦ bit-word n (λ k. digit v k || digit t k) i false l ∙ grows (digit v i) (digit t i) (sym (bit-word n (λ k. digit v k && not (digit t k)) i false l) ∙ h)
  | inr l ↦ absurd (let e : false ≡ true = sym (past_word n (λ k. digit v k && not (digit t k)) i false l) ∙ h in cc)
])

not_zero : (x : ℕ) → (x == 0) ≡ false → 0 < x
not_zero x h = grind (arith, nat_tests)

-- a divisor's bounds, where the least is not 0
pub least_divides : (b : Bounds) (r : Bool) → r ≡ (b.least == 0) → r ≡ false → 0 < b.least
least_divides b r e h = not_zero b.least (sym e ∙ h)

pub greatest_divides : (n v t : ℕ) (b : Bounds) (r : Bool) → b ≡ bounds_of n v t → r ≡ (b.least == 0) → r ≡ false → 0 < b.greatest
greatest_divides n v t b r e f h =
    let some : 0 < b.least = not_zero b.least (sym f ∙ h) in
    let more : (bounds_of n v t).least ≤ (bounds_of n v t).greatest = least_below n v t in
    let one : b.least ≡ (bounds_of n v t).least = ap (λ (x : Bounds). x.least) e in
    let other : b.greatest ≡ (bounds_of n v t).greatest = ap (λ (x : Bounds). x.greatest) e in
    omega arith

difference_held : (n p q : ℕ) → difference (word_of n p) (word_of n q) ≡ word_of n (bit_xor p q)
difference_held n p q =
    ap (λ k. word k (λ i. xor (bit (word_of n p) i) (bit (word_of n q) i))) (length-word n _)
    ∙ word-same n _ _ (λ i l. ap (λ b. xor b (bit (word_of n q) i)) (bit-word n (digit p) i false l) ∙ ap (λ b. xor (digit p i) b) (bit-word n (digit q) i false l))
    ∙ sym (holds_word n (bit_xor p q) _ (holds_xor (own_bits n p) (own_bits n q)))

held_number : (n p : ℕ) → p < 2 ^ n → number (word_of n p) ≡ p
held_number n p h = number-word_of n p ∙ mod-eq_of_lt h

-- two numbers differ at place i or above it where their exclusive or has a 1 there
apart_is : (n i p q : ℕ) → p < 2 ^ n → q < 2 ^ n → has_one (drop i (word_of n (bit_xor p q))) ≡ not (p / 2 ^ i == q / 2 ^ i)
apart_is n i p q h k =
    sym (
    ap (λ x. not (x / 2 ^ i == q / 2 ^ i)) (sym (held_number n p h)) ∙ ap (λ x. not (number (word_of n p) / 2 ^ i == x / 2 ^ i)) (sym (held_number n q k))
    ∙ quotients_differ i (word_of n p) (word_of n q) (length-word n _ ∙ sym (length-word n _))
    ∙ ap (λ (w : Word). has_one (drop i w)) (difference_held n p q))

-- ---- the taint of a quotient

abbrev bound_by : Bool → ℕ → ℕ → ℕ → ℕ
bound_by unsure whole dividend divisor = if unsure then whole else dividend / divisor

low_is : (s : Shape) (v t : Pair) (a b : Bounds) → a ≡ bounds_of s.a v.a t.a → b ≡ bounds_of s.b v.b t.b
    → bound_by (b.least == 0) 0 a.least b.greatest ≡ low_quotient (word_of s.a v.a) (word_of s.a t.a) (word_of s.b v.b) (word_of s.b t.b)
low_is s v t a b e f =
    ap (λ (x : Bounds). bound_by (b.least == 0) 0 x.least b.greatest) e ∙ ap (λ (x : Bounds). bound_by (x.least == 0) 0 (bounds_of s.a v.a t.a).least x.greatest) f
    ∙ sym (ap (λ z. bound_by (z == 0) 0 (number (min_word (word_of s.a v.a) (word_of s.a t.a))) (number (max_word (word_of s.b v.b) (word_of s.b t.b)))) (min_held s.b v.b t.b)
    ∙ ap (λ z. bound_by ((bounds_of s.b v.b t.b).least == 0) 0 z (number (max_word (word_of s.b v.b) (word_of s.b t.b)))) (min_held s.a v.a t.a)
    ∙ ap (λ z. bound_by ((bounds_of s.b v.b t.b).least == 0) 0 (bounds_of s.a v.a t.a).least z) (largest_held s.b v.b t.b))

high_is : (s : Shape) (v t : Pair) (a b : Bounds) → a ≡ bounds_of s.a v.a t.a → b ≡ bounds_of s.b v.b t.b
    → bound_by (b.least == 0) a.greatest a.greatest b.least ≡ high_quotient (word_of s.a v.a) (word_of s.a t.a) (word_of s.b v.b) (word_of s.b t.b)
high_is s v t a b e f =
    ap (λ (x : Bounds). bound_by (b.least == 0) x.greatest x.greatest b.least) e ∙ ap (λ (x : Bounds). bound_by (x.least == 0) (bounds_of s.a v.a t.a).greatest (bounds_of s.a v.a t.a).greatest x.least) f
    ∙ sym (ap (λ z. bound_by (z == 0) (number (max_word (word_of s.a v.a) (word_of s.a t.a))) (number (max_word (word_of s.a v.a) (word_of s.a t.a))) z) (min_held s.b v.b t.b)
    ∙ ap (λ z. bound_by ((bounds_of s.b v.b t.b).least == 0) z z (bounds_of s.b v.b t.b).least) (largest_held s.a v.a t.a))

pub quotient_taint_is : (s : Shape) (v t : Pair) (a b : Bounds) (low high p k : ℕ) (d : Bool) → s.y ≤ 128 → low < 2 ^ 128 → high < 2 ^ 128 → a ≡ bounds_of s.a v.a t.a → b ≡ bounds_of s.b v.b t.b
    → low ≡ bound_by (b.least == 0) 0 a.least b.greatest → high ≡ bound_by (b.least == 0) a.greatest a.greatest b.least → word_of 128 p ≡ filled_word (word_of 128 (bit_xor low high))
    → d ≡ divides_of s v t → word_of s.y k ≡ word s.y (λ i. d) → word_of s.y (bit_and p k) ≡ quotient_taint_of s v t
unfolding quotient_taint_of
quotient_taint_is s v t a b low high p k d fit low_fits high_fits e f g h places di all =
    let tainted : Bool = has_one (word_of s.a t.a) || has_one (word_of s.b t.b) in
    let apart : Word = word_of 128 (bit_xor low high) in
    let filled : Holds 128 p (λ i. has_one (drop i apart)) = word_holds 128 p (λ i. has_one (drop i apart)) (places ∙ ap (λ n. word n (λ i. has_one (drop i apart))) (length-word 128 (digit (bit_xor low high)))) in
    let reached : Holds s.y p (λ i. not (low / 2 ^ i == high / 2 ^ i)) = record { bits = λ i l. filled.bits i (omega arith) ∙ apart_is 128 i low high low_fits high_fits } in
    holds_word s.y (bit_and p k) _ (holds_and reached (word_holds s.y k _ all))
    ∙ ap (λ x. word s.y (λ i. not (x / 2 ^ i == high / 2 ^ i) && d)) (g ∙ low_is s v t a b e f)
    ∙ ap (λ x. word s.y (λ i. not (low_quotient (word_of s.a v.a) (word_of s.a t.a) (word_of s.b v.b) (word_of s.b t.b) / 2 ^ i == x / 2 ^ i) && d)) (h ∙ high_is s v t a b e f)
    ∙ ap (λ x. word s.y (λ i. not (low_quotient (word_of s.a v.a) (word_of s.a t.a) (word_of s.b v.b) (word_of s.b t.b) / 2 ^ i == high_quotient (word_of s.a v.a) (word_of s.a t.a) (word_of s.b v.b) (word_of s.b t.b) / 2 ^ i) && x))
    (di ∙ ap (λ b. tainted && b) (some_number (max_word (word_of s.b v.b) (word_of s.b t.b))))
    ∙ word-same s.y _ _ (λ i l. and_last tainted (not (number (max_word (word_of s.b v.b) (word_of s.b t.b)) == 0)) _)
