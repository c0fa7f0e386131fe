-- Words cut, extended, joined and moved.
use Rattle.std.specs.Prelude.{ℕ, ◌+◌, ◌-◌, ◌*◌, ◌/◌, ◌%◌, ◌^◌, ◌<◌, ◌≤◌, ◌≡◌, ◌⊎◌, ◌==◌, nat_le, nat_lt, Bool, true, false, not, ◌&&◌, ◌||◌, bit_and, bit_or, get_or, length, if◌then◌else◌, refl}
use Rattle.std.proofs.Common.{arith, sym, ap, ◌∙◌, inl, inr}
use Rattle.std.proofs.lemmas.Bool.Decides.{nat_tests}
use Rattle.std.proofs.lemmas.Nat.{or_comm, or_shifted, pow-add, pow_pos}
use Rattle.std.proofs.Math.Nat.{mod-eq_of_lt, mul-le-mul_right, zero-div}
use Rattle.cif_defs.specs.Words.{bit, digit, extend, top, word, word_of}
use Rattle.cif_defs.specs.Meanings.{concat_word, not_word, slice_word}
use Rattle.cif_defs.proofs.WordLaws.{length-word, le_or_lt, past_word}
use Rattle.cif_defs.proofs.Numbers.{digit_mod, word-same}
use Rattle.cif_arith.proofs.Carries.{digit-and, digit-or}
use Rattle.word_numbers.specs.HeldWords.{lowered_word, raised_word}
use Rattle.word_numbers.proofs.Digits.{bit-held, bit-held_by, digit-joined_high, digit-joined_low, digit-not, digit-ones, digit-shr, digit_above, digits-word_of, not_word-by, word_of-digits}

or_none : (b : Bool) → (b || false) ≡ b
or_none true = refl
or_none false = refl

-- ---- extended

extended_digit : (from x i : ℕ) (fill : Bool) → x < 2 ^ from → (i < from) ⊎ (from ≤ i) → fill ≡ false → digit x i ≡ get_or (word_of from x) i fill
extended_digit from x i fill h (inl l) e = sym (bit-held_by from x i fill l)
extended_digit from x i fill h (inr l) e = digit_above from x i h l ∙ sym e ∙ sym (past_word from (λ k. digit x k) i fill l)

pub extended_with_zeros : (from to x : ℕ) (signed : Bool) → x < 2 ^ from → (signed && top (word_of from x)) ≡ false → word_of to x ≡ extend to signed (word_of from x)
extended_with_zeros from to x signed h e = word_of-digits to x _ (λ i l. extended_digit from x i (signed && top (word_of from x)) h (le_or_lt i from) e)

signed_digit : (from x m i : ℕ) (fill : Bool) → m < 2 ^ 128 → m ≡ 2 ^ from - 1 → i < 128 → x < 2 ^ from → (i < from) ⊎ (from ≤ i) → fill ≡ true → digit (bit_or x (2 ^ 128 - 1 - m)) i ≡ get_or (word_of from x) i fill
signed_digit from x m i fill k q n h (inl l) e =
    digit-or x (2 ^ 128 - 1 - m) i ∙ ap (λ b. digit x i || b) (digit-not m i k n ∙ ap not (ap (λ y. digit y i) q ∙ digit-ones from i l)) ∙ or_none (digit x i) ∙ sym (bit-held_by from x i fill l)
signed_digit from x m i fill k q n h (inr l) e =
    let below : m < 2 ^ from = omega (arith, pow_pos from) in
    digit-or x (2 ^ 128 - 1 - m) i ∙ ap (λ b. b || digit (2 ^ 128 - 1 - m) i) (digit_above from x i h l)
    ∙ digit-not m i k n ∙ ap not (digit_above from m i below l) ∙ sym e ∙ sym (past_word from (λ j. digit x j) i fill l)

pub extended_with_ones : (from to x m : ℕ) (signed : Bool) → to ≤ 128 → x < 2 ^ from → m < 2 ^ 128 → m ≡ 2 ^ from - 1 → signed ≡ true → top (word_of from x) ≡ true
    → word_of to (bit_or x (2 ^ 128 - 1 - m)) ≡ extend to signed (word_of from x)
extended_with_ones from to x m signed t h k q s e =
    let fill : (signed && top (word_of from x)) ≡ true = ap (λ b. b && top (word_of from x)) s ∙ e in
    word_of-digits to (bit_or x (2 ^ 128 - 1 - m)) _ (λ i l. signed_digit from x m i (signed && top (word_of from x)) k q (omega arith) h (le_or_lt i from) fill)

-- ---- cut out and joined

pub sliced : (n width at x : ℕ) → x < 2 ^ n → word_of width (x / 2 ^ at) ≡ slice_word width at (word_of n x)
sliced n width at x h = word_of-digits width (x / 2 ^ at) _ (λ i l. digit-shr x at i ∙ sym (bit-held n x (at + i) h))

-- both parts side by side
pub joined-sum : (k low high : ℕ) → k < 128 → low < 2 ^ k → high < 2 ^ (128 - k) → bit_or low (high * 2 ^ k % 2 ^ 128) ≡ high * 2 ^ k + low
joined-sum k low high h l m =
    let whole : 128 ≡ (128 - k) + k = omega arith in
    let power : 2 ^ 128 ≡ 2 ^ (128 - k) * 2 ^ k = ap (λ j. 2 ^ j) whole ∙ pow-add 2 (128 - k) k in
    let some : 0 < 2 ^ k = pow_pos k in
    let room : (high + 1) * 2 ^ k ≤ 2 ^ (128 - k) * 2 ^ k = mul-le-mul_right (2 ^ k) (omega arith) in
    let kept : high * 2 ^ k % 2 ^ 128 ≡ high * 2 ^ k = mod-eq_of_lt (omega arith) in
    ap (bit_or low) kept ∙ or_comm low (high * 2 ^ k) ∙ or_shifted high k low l

joined_bit : (k n low high i : ℕ) → low < 2 ^ k → high < 2 ^ n → (i < k) ⊎ (k ≤ i)
    → digit (high * 2 ^ k + low) i ≡ (if nat_lt i k then bit (word_of k low) i else bit (word_of n high) (i - k))
joined_bit k n low high i l h (inl m) =
    let t : nat_lt i k ≡ true = grind (arith, nat_tests) in
    digit-joined_low high k low i m ∙ sym (bit-held k low i l) ∙ ap (λ b. if b then bit (word_of k low) i else bit (word_of n high) (i - k)) (sym t)
joined_bit k n low high i l h (inr m) =
    let t : nat_lt i k ≡ false = grind (arith, nat_tests) in
    digit-joined_high high k low i l m ∙ sym (bit-held n high (i - k) h) ∙ ap (λ b. if b then bit (word_of k low) i else bit (word_of n high) (i - k)) (sym t)

pub joined : (k n low high x : ℕ) → low < 2 ^ k → high < 2 ^ n → x ≡ high * 2 ^ k + low → word_of (k + n) x ≡ concat_word k n (word_of k low) (word_of n high)
joined k n low high x l h e = ap (word_of (k + n)) e ∙ word_of-digits (k + n) (high * 2 ^ k + low) _ (λ i m. joined_bit k n low high i l h (le_or_lt i k))

pub joined-fits : (k n low high x : ℕ) → low < 2 ^ k → high < 2 ^ n → x ≡ high * 2 ^ k + low → x < 2 ^ (k + n)
joined-fits k n low high x l h e =
    let room : (high + 1) * 2 ^ k ≤ 2 ^ n * 2 ^ k = mul-le-mul_right (2 ^ k) (omega arith) in
    let other_way : k + n ≡ n + k = omega arith in
    let power : 2 ^ (k + n) ≡ 2 ^ n * 2 ^ k = ap (λ j. 2 ^ j) other_way ∙ pow-add 2 n k in
    omega arith

-- ---- moved up

digit_zero : (i : ℕ) → digit 0 i ≡ false
digit_zero i = ap (λ k. k % 2 == 1) (zero-div (2 ^ i))

raised_digit : (n k x i : ℕ) → i < n → n ≤ 128 → (i < k) ⊎ (k ≤ i) → digit (x * 2 ^ k % 2 ^ 128) i ≡ (nat_le k i && bit (word_of n x) (i - k))
raised_digit n k x i h f (inl l) =
    let t : nat_le k i ≡ false = grind (arith, nat_tests) in
    let same : x * 2 ^ k ≡ x * 2 ^ k + 0 = omega arith in
    digit_mod (x * 2 ^ k) 128 i (omega arith) ∙ ap (λ y. digit y i) same ∙ digit-joined_low x k 0 i l ∙ digit_zero i ∙ ap (λ b. b && bit (word_of n x) (i - k)) (sym t)
raised_digit n k x i h f (inr l) =
    let t : nat_le k i ≡ true = grind (arith, nat_tests) in
    let same : x * 2 ^ k ≡ x * 2 ^ k + 0 = omega arith in
    digit_mod (x * 2 ^ k) 128 i (omega arith) ∙ ap (λ y. digit y i) same ∙ digit-joined_high x k 0 i (pow_pos k) l ∙ sym (bit-held_by n x (i - k) false (omega arith))
    ∙ ap (λ b. b && bit (word_of n x) (i - k)) (sym t)

of_length : (n x : ℕ) (f : ℕ → Bool) → word n f ≡ word (length (word_of n x)) f
of_length n x f = ap (λ m. word m f) (sym (length-word n (λ i. digit x i)))

pub word_of-raised : (n k x : ℕ) → n ≤ 128 → word_of n (x * 2 ^ k % 2 ^ 128) ≡ raised_word k (word_of n x)
word_of-raised n k x f = word_of-digits n (x * 2 ^ k % 2 ^ 128) _ (λ i h. raised_digit n k x i h f (le_or_lt i k)) ∙ of_length n x _

pub all_raised : (n k x : ℕ) → n ≤ k → word_of n 0 ≡ raised_word k (word_of n x)
all_raised n k x h = word_of-digits n 0 (λ i. nat_le k i && bit (word_of n x) (i - k)) (λ i l. nothing i l) ∙ of_length n x _ where
  nothing : (i : ℕ) → i < n → digit 0 i ≡ (nat_le k i && bit (word_of n x) (i - k))
  nothing i l =
      let t : nat_le k i ≡ false = grind (arith, nat_tests) in
      digit_zero i ∙ ap (λ b. b && bit (word_of n x) (i - k)) (sym t)

-- ---- moved down

pub none_lowered : (n x : ℕ) (fill : Bool) → word_of n x ≡ lowered_word 0 fill (word_of n x)
none_lowered n x fill = word_of-digits n x (λ i. get_or (word_of n x) (i + 0) fill) (λ i h. sym (bit-held_by n x (i + 0) fill (omega arith) ∙ ap (digit x) (omega arith))) ∙ of_length n x _

pub all_lowered : (n k x y : ℕ) (fill : Bool) → n ≤ k → word_of n y ≡ word n (λ i. fill) → word_of n y ≡ lowered_word k fill (word_of n x)
all_lowered n k x y fill h e = e ∙ word-same n _ (λ i. get_or (word_of n x) (i + k) fill) (λ i l. sym (past_word n (λ j. digit x j) (i + k) fill (omega arith))) ∙ of_length n x _

-- r is filled, and c is 0 where bits of x come down to
lowered_digit : (n k x r c i : ℕ) (fill : Bool) → k < n → i < n → x < 2 ^ n → word_of n r ≡ word n (λ j. fill) → (i < n - k → digit c i ≡ false) → (n - k ≤ i → digit c i ≡ true) → (i < n - k) ⊎ (n - k ≤ i)
    → digit (bit_or (x / 2 ^ k) (bit_and r c)) i ≡ get_or (word_of n x) (i + k) fill
lowered_digit n k x r c i fill l h f e low high (inl m) =
    digit-or (x / 2 ^ k) (bit_and r c) i ∙ ap (λ b. b || digit (bit_and r c) i) (digit-shr x k i) ∙ ap (λ b. digit x (k + i) || b) (digit-and r c i ∙ ap (λ b. digit r i && b) (low m) ∙ and_none (digit r i))
    ∙ or_none (digit x (k + i)) ∙ ap (digit x) (omega arith) ∙ sym (bit-held_by n x (i + k) fill (omega arith)) where
      and_none : (b : Bool) → (b && false) ≡ false
      and_none true = refl
      and_none false = refl
lowered_digit n k x r c i fill l h f e low high (inr m) =
    digit-or (x / 2 ^ k) (bit_and r c) i ∙ ap (λ b. b || digit (bit_and r c) i) (digit-shr x k i ∙ digit_above n x (k + i) f (omega arith)) ∙ digit-and r c i
    ∙ ap (λ b. digit r i && b) (high m) ∙ and_all (digit r i) ∙ digits-word_of n r (λ j. fill) e i h ∙ sym (past_word n (λ j. digit x j) (i + k) fill (omega arith)) where
      and_all : (b : Bool) → (b && true) ≡ b
      and_all true = refl
      and_all false = refl

-- the complement of a mask of m bits, as a word of n bits
complement_digit : (n m k c i : ℕ) → i < n → m ≡ 2 ^ k - 1 → word_of n c ≡ not_word n false (word_of n m) → digit c i ≡ not (digit (2 ^ k - 1) i)
complement_digit n m k c i h q e = digits-word_of n c (λ j. not (digit m j)) (not_word-by n m c (λ j. digit m j) e refl) i h ∙ ap (λ y. not (digit y i)) q

pub word_of-lowered : (n k x m r c : ℕ) (fill : Bool) → k < n → x < 2 ^ n → m ≡ 2 ^ (n - k) - 1 → word_of n r ≡ word n (λ j. fill) → word_of n c ≡ not_word n false (word_of n m)
    → word_of n (bit_or (x / 2 ^ k) (bit_and r c)) ≡ lowered_word k fill (word_of n x)
word_of-lowered n k x m r c fill l f q e g = word_of-digits n (bit_or (x / 2 ^ k) (bit_and r c)) (λ i. get_or (word_of n x) (i + k) fill)
    (λ i h. let below : 2 ^ (n - k) - 1 < 2 ^ (n - k) = omega (arith, pow_pos (n - k)) in
    lowered_digit n k x r c i fill l h f e
    (λ t. complement_digit n m (n - k) c i h q g ∙ ap not (digit-ones (n - k) i t))
    (λ t. complement_digit n m (n - k) c i h q g ∙ ap not (digit_above (n - k) (2 ^ (n - k) - 1) i below t))
    (le_or_lt i (n - k))) ∙ of_length n x _
