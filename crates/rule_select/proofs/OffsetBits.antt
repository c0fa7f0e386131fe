-- The bits that an offset with a sign shows.
use Rattle.std.specs.Prelude.{ℕ, suc, ◌+◌, ◌-◌, ◌*◌, ◌^◌, ◌<◌, ◌≤◌, ◌≡◌, nat_le, nat_lt, max, Bool, true, false, ◌&&◌, List, length, take, ℤ, pos, negsuc, ◌+ℤ◌, ◌-ℤ◌, refl, if◌then◌else◌}
use Rattle.std.proofs.Common.{arith, sym, ap, ◌∙◌, inl, inr}
use Rattle.std.proofs.lemmas.Bool.Decides.{nat_tests}
use Rattle.std.proofs.lemmas.Int.{ints}
use Rattle.std.proofs.lemmas.List.{get_or_past, take_all}
use Rattle.std.proofs.Math.Nat.{pow-succ'}
use Rattle.cif_defs.specs.Words.{Word, bit, bit_at, extend, extended_bit, int_number, number, operand, top, word}
use Rattle.cif_defs.specs.Meanings.{extended_to, shift_word, shiftx_word, shr_word}
use Rattle.cif_defs.proofs.WordLaws.{bit-word, le_or_lt, past_word}
use Rattle.rule_select.proofs.Leaves.{extended_leaf}
use Rattle.rule_select.proofs.MoveBits.{gain, low_below, low_number}
use Rattle.rule_select.proofs.OffsetLaws.{far_tree, near_tree, two_way_bit}
use Rattle.rule_select.proofs.PlacedParts.{bit_within}
use Rattle.rule_select.proofs.RisingBits.{rising_bits}
use Rattle.rule_select.proofs.ShiftBits.{moved_by, right_bits}
use Rattle.rule_select.proofs.TreeLaws.{tree_bit}

-- ---- places

place_plain : (i x : ℕ) → pos i +ℤ (pos x -ℤ pos 0) ≡ pos (i + x)
place_plain i x = omega (arith, ints)

place_down : (i x d p : ℕ) → x + d ≡ p → d ≤ i → pos i +ℤ (pos x -ℤ pos p) ≡ pos (i - d)
place_down i x d p e h = omega (arith, ints)

place_under : (i x d p : ℕ) → x + d ≡ p → i < d → pos i +ℤ (pos x -ℤ pos p) ≡ negsuc (d - i - 1)
place_under i x d p e h = omega (arith, ints)

-- the number of a signed word, by its sign s
signed_number : (w : Word) (m : ℕ) (s : Bool) → length w ≡ suc m → bit w m ≡ s → int_number true w ≡ pos (number (take m w) + gain s (2 ^ m)) -ℤ pos (if s then 2 ^ suc m else 0)
signed_number w m s e h =
    let last : length w - 1 ≡ m = omega arith in
    let sign : top w ≡ s = ap (bit w) last ∙ h in
    let all : number w ≡ number (take m w) + gain s (2 ^ m) =
    sym (ap number (take_all (suc m) w (omega arith))) ∙ low_number w m (omega arith) ∙ ap (λ b. number (take m w) + gain b (2 ^ m)) h in
    ap (λ b. pos (number w) -ℤ pos (if b then 2 ^ length w else 0)) sign ∙ ap (λ k. pos (number w) -ℤ pos (if s then 2 ^ k else 0)) e ∙ ap (λ k. pos k -ℤ pos (if s then 2 ^ suc m else 0)) all

-- bit z of n bits of a word, where z is i and a signed number of low bits x
near_bit : (w x i : ℕ) (f : ℕ → Bool) → bit_at (word w f) (pos i +ℤ (pos (x + 0) -ℤ pos 0)) ≡ (nat_lt (i + x) w && f (i + x))
near_bit w x i f = let same : i + (x + 0) ≡ i + x = omega arith in ap (bit_at (word w f)) (place_plain i (x + 0)) ∙ ap (λ k. bit (word w f) k) same ∙ bit_within w f (i + x)

far_bit : (w x p i : ℕ) (f : ℕ → Bool) → x ≤ p → i < w → bit_at (word w f) (pos i +ℤ (pos (x + p) -ℤ pos (2 * p))) ≡ (nat_le (p - x) i && f (i - (p - x)))
far_bit w x p i f h l = elim (le_or_lt i (p - x)) [
  | inl u ↦ (let below : nat_le (p - x) i ≡ false = grind (arith, nat_tests) in
      ap (bit_at (word w f)) (place_under i (x + p) (p - x) (2 * p) (omega arith) u) ∙ sym (ap (λ b. b && f (i - (p - x))) below))
  | inr u ↦ (let inside : nat_le (p - x) i ≡ true = grind (arith, nat_tests) in
      ap (bit_at (word w f)) (place_down i (x + p) (p - x) (2 * p) (omega arith) u) ∙ bit-word w f (i - (p - x)) false (omega arith) ∙ sym (ap (λ b. b && f (i - (p - x))) inside))
]

-- by the sign of B
two_way_by : (w n : ℕ) (signed : Bool) (m i : ℕ) (us : List Word) (s : Bool) → n ≤ w → length (operand us 1) ≡ suc m → i < n → bit (operand us 1) m ≡ s
    → bit_at (word w (λ k. extended_bit signed k (operand us 0))) (pos i +ℤ (pos (moved_by us m + gain s (2 ^ m)) -ℤ pos (if s then 2 ^ suc m else 0))) ≡ two_way_bit w n signed m i us
two_way_by w n signed m i us true few e h q =
    ap (λ p. bit_at (word w (λ k. extended_bit signed k (operand us 0))) (pos i +ℤ (pos (moved_by us m + 2 ^ m) -ℤ pos p))) (pow-succ' 2 m)
    ∙ far_bit w (moved_by us m) (2 ^ m) i (λ k. extended_bit signed k (operand us 0)) (low_below (operand us 1) m (omega arith)) (omega arith)
    ∙ sym (rising_bits n m (extended_leaf 0 signed) us (omega arith) m (omega arith) i h)
    ∙ sym (ap (λ b. if b then tree_bit (far_tree n signed m) m i us else tree_bit (near_tree w signed m) m i us) q)
two_way_by w n signed m i us false few e h q =
    near_bit w (moved_by us m) i (λ k. extended_bit signed k (operand us 0))
    ∙ sym (right_bits w m (extended_leaf 0 signed) us (omega arith) m (omega arith) i (omega arith))
    ∙ sym (ap (λ b. if b then tree_bit (far_tree n signed m) m i us else tree_bit (near_tree w signed m) m i us) q)

pub two_way_gives : (w n : ℕ) (signed : Bool) (m i : ℕ) (us : List Word) → n ≤ w → length (operand us 1) ≡ suc m → i < n
    → bit_at (extend w signed (operand us 0)) (pos i +ℤ int_number true (operand us 1)) ≡ two_way_bit w n signed m i us
two_way_gives w n signed m i us few e h =
    ap (λ (z : ℤ). bit_at (extend w signed (operand us 0)) (pos i +ℤ z)) (signed_number (operand us 1) m (bit (operand us 1) m) e refl)
    ∙ two_way_by w n signed m i us (bit (operand us 1) m) few e h refl

-- ---- rows

-- past its end a word reads as one that is extended with zeros
plain_at : (w : ℕ) (v : Word) (z : ℤ) → length v ≤ w → bit_at v z ≡ bit_at (extend w false v) z
plain_at w v (pos k) h = elim (le_or_lt k w) [
  | inl l ↦ sym (bit-word w (λ x. extended_bit false x v) k false l)
  | inr l ↦ get_or_past v k false (omega arith) ∙ sym (past_word w (λ x. extended_bit false x v) k false l)
]
plain_at w v (negsuc k) h = refl

-- $shiftx is $shift of an unsigned A
pub shiftx_is : (n : ℕ) (signed : Bool) (a b : Word) (i : ℕ) → i < n → bit (shiftx_word n signed a b) i ≡ bit (shift_word n false signed a b) i
shiftx_is n signed a b i h =
    bit-word n (λ k. bit_at a (pos k +ℤ int_number signed b)) i false h ∙ plain_at (max (length a) n) a (pos i +ℤ int_number signed b) (omega arith)
    ∙ sym (bit-word n (λ k. bit_at (extended_to n false a) (pos k +ℤ int_number signed b)) i false h)

-- an unsigned B moves to the right alone
pub unsigned_is : (n : ℕ) (signed : Bool) (a b : Word) (i : ℕ) → i < n → bit (shift_word n signed false a b) i ≡ bit (shr_word n signed a b) i
unsigned_is n signed a b i h =
    bit-word n (λ k. bit_at (extended_to n signed a) (pos k +ℤ int_number false b)) i false h ∙ ap (bit_at (extended_to n signed a)) (place_plain i (number b))
    ∙ sym (bit-word n (λ k. bit (extended_to n signed a) (k + number b)) i false h)

pub signed_is : (n a : ℕ) (signed : Bool) (m i : ℕ) (us : List Word) → length (operand us 0) ≡ a → length (operand us 1) ≡ suc m → i < n → bit (shift_word n signed true (operand us 0) (operand us 1)) i ≡ two_way_bit (max a n) n signed m i us
signed_is n a signed m i us d e h =
    bit-word n (λ k. bit_at (extended_to n signed (operand us 0)) (pos k +ℤ int_number true (operand us 1))) i false h
    ∙ ap (λ x. bit_at (extend (max x n) signed (operand us 0)) (pos i +ℤ int_number true (operand us 1))) d ∙ two_way_gives (max a n) n signed m i us (omega arith) e h
