-- The bits that stages give which halve words, or double them.
use Rattle.std.specs.Prelude.{ℕ, zero, suc, ◌+◌, ◌-◌, ◌*◌, ◌^◌, ◌<◌, ◌≤◌, ◌≡◌, nat_le, nat_lt, Bool, true, false, ◌&&◌, List, [], ◌∷◌, length, drop, refl, if◌then◌else◌}
use Rattle.std.proofs.Common.{arith, sym, ap, ◌∙◌, inl, inr}
use Rattle.std.proofs.lemmas.Bool.Decides.{nat_tests}
use Rattle.std.proofs.Math.ListN.{drop_of_length-le}
use Rattle.std.proofs.Math.Nat.{mul-le-mul_left}
use Rattle.cif_defs.specs.Words.{Word, bit, bit_value, number, operand}
use Rattle.cif_defs.proofs.WordLaws.{le_or_lt}
use Rattle.rule_select.specs.declared.moves.Moves.TheVariants.{Blocks, Halves}
use Rattle.rule_select.specs.Moves.{order_by}
use Rattle.rule_select.proofs.BlockTrees.{half_is, halved, twice}
use Rattle.rule_select.proofs.MoveBits.{gain, kept_bit, left_more, left_none, low_number, low_under}
use Rattle.rule_select.proofs.MoveReads.{left_place}
use Rattle.rule_select.proofs.MoveTrees.{move_tree, place_by}
use Rattle.rule_select.proofs.ShiftBits.{moved_by}
use Rattle.rule_select.proofs.TreeLaws.{tree_bit}

-- ---- halves

-- the number of the bits from k on
high_number : (w : Word) (k : ℕ) → k < length w → number (drop k w) ≡ bit_value (bit w k) + 2 * number (drop (suc k) w)
high_number [] k h = absurd (omega arith)
high_number (b ∷ w) zero h = refl
high_number (b ∷ w) (suc k) h = high_number w k (omega arith)

half_step : (h w t i : ℕ) (s : Bool) (prev f : ℕ → Bool) → w ≡ h + h → ((x : ℕ) → x < w → prev x ≡ f (x + w * t)) → i < h
    → (if s then nat_lt (h + i) w && prev (h + i) else nat_lt i w && prev i) ≡ f (i + h * (bit_value s + 2 * t))
half_step h w t i true prev f e g l =
    let place : h + i + w * t ≡ i + h * (1 + 2 * t) = ap (λ x. h + i + x * t) e ∙ (omega arith) in
    kept_bit w (h + i) prev (omega arith) ∙ g (h + i) (omega arith) ∙ ap f place
half_step h w t i false prev f e g l =
    let place : i + w * t ≡ i + h * (0 + 2 * t) = ap (λ x. i + x * t) e ∙ (omega arith) in
    kept_bit w i prev (omega arith) ∙ g i (omega arith) ∙ ap f place

none_high : (n m i : ℕ) (w : Word) (f : ℕ → Bool) → length w ≡ m → f i ≡ f (i + n * 2 ^ (m - 0) * number (drop (m - 0) w))
none_high n m i w f e =
    let none : number (drop (m - 0) w) ≡ 0 = ap number (drop_of_length-le w (omega arith)) in
    let place : i ≡ i + n * 2 ^ (m - 0) * number (drop (m - 0) w) = sym (ap (λ x. i + n * 2 ^ (m - 0) * x) none ∙ (omega arith)) in
    ap f place

pub half_bits : (n m q : ℕ) (leaf : ℕ → List Word → Bool) (us : List Word) → length (operand us q) ≡ m → (j : ℕ) → j ≤ m → (i : ℕ) → i < halved n m j
    → tree_bit (move_tree (Halves n) q m (halved n m) leaf) j i us ≡ leaf (i + halved n m j * number (drop (m - j) (operand us q))) us
unfolding place_by order_by
half_bits n m q leaf us e zero h i l = none_high n m i (operand us q) (λ k. leaf k us) e
half_bits n m q leaf us e (suc j) h i l =
    let next : suc (m - suc j) ≡ m - j = omega arith in
    let high : bit_value (bit (operand us q) (m - suc j)) + 2 * number (drop (m - j) (operand us q)) ≡ number (drop (m - suc j) (operand us q)) =
    ap (λ k. bit_value (bit (operand us q) (m - suc j)) + 2 * number (drop k (operand us q))) (sym next) ∙ sym (high_number (operand us q) (m - suc j) (omega arith)) in
    half_step (halved n m (suc j)) (halved n m j) (number (drop (m - j) (operand us q))) i (bit (operand us q) (m - suc j)) (λ k. tree_bit (move_tree (Halves n) q m (halved n m) leaf) j k us) (λ k. leaf k us)
    (half_is n m j (omega arith)) (λ k x. half_bits n m q leaf us e j (omega arith) k x) l
    ∙ ap (λ x. leaf (i + halved n m (suc j) * x) us) high

-- ---- doubles

kept_below : (w d n i : ℕ) (prev f : ℕ → Bool) → d + n ≤ w → ((x : ℕ) → x < w → prev x ≡ (nat_le d x && f (x - d))) → ((x : ℕ) → n ≤ x → f x ≡ false) → (nat_lt i w && prev i) ≡ (nat_le (d + 0) i && f (i - (d + 0)))
kept_below w d n i prev f few e past = elim (le_or_lt i w) [
  | inl l ↦ (let same : d ≡ d + 0 = omega arith in kept_bit w i prev l ∙ e i l ∙ ap (λ k. nat_le k i && f (i - k)) same)
  | inr l ↦ (let outside : nat_lt i w ≡ false = grind (arith, nat_tests) in
      ap (λ b. b && prev i) outside ∙ sym (ap (λ b. nat_le (d + 0) i && b) (past (i - (d + 0)) (omega arith)) ∙ and_false (nat_le (d + 0) i)))
]
  where
    and_false : (b : Bool) → (b && false) ≡ false
    and_false true = refl
    and_false false = refl

block_step : (w d n i : ℕ) (s : Bool) (prev f : ℕ → Bool) → d + n ≤ w → i < w + w → ((x : ℕ) → x < w → prev x ≡ (nat_le d x && f (x - d))) → ((x : ℕ) → n ≤ x → f x ≡ false)
    → (if s then nat_lt (left_place w w i) w && prev (left_place w w i) else nat_lt i w && prev i) ≡ (nat_le (d + gain s w) i && f (i - (d + gain s w)))
block_step w d n i true prev f few l e past = elim (le_or_lt i w) [
  | inl h ↦ left_none w d w i prev f h
  | inr h ↦ left_more w d w i prev f e (omega arith) h
]
block_step w d n i false prev f few l e past = kept_below w d n i prev f few e past

scaled_gain : (n x p : ℕ) (s : Bool) → n * x + gain s (n * p) ≡ n * (x + gain s p)
scaled_gain n x p true = omega arith
scaled_gain n x p false = omega arith

low_room : (n x p : ℕ) → x + 1 ≤ p → n * x + n ≤ n * p
low_room n x p h = let more : n * (x + 1) ≤ n * p = mul-le-mul_left n h in omega arith

none_low : (n i : ℕ) (f : ℕ → Bool) → f i ≡ (nat_le (n * 0) i && f (i - n * 0))
none_low n i f = let t : nat_le (n * 0) i ≡ true = (let z : n * 0 ≡ 0 = omega arith in grind (arith, nat_tests)) in let place : i ≡ i - n * 0 = omega arith in ap f place ∙ sym (ap (λ b. b && f (i - n * 0)) t)

pub block_bits : (n m : ℕ) (leaf : ℕ → List Word → Bool) (us : List Word) → length (operand us 1) ≡ m → ((x : ℕ) → n ≤ x → leaf x us ≡ false) → (j : ℕ) → j ≤ m → (i : ℕ) → i < n * 2 ^ j
    → tree_bit (move_tree (Blocks n) 1 m (λ j. n * 2 ^ j) leaf) j i us ≡ (nat_le (n * moved_by us j) i && leaf (i - n * moved_by us j) us)
unfolding place_by order_by
block_bits n m leaf us e past zero h i l = none_low n i (λ k. leaf k us)
block_bits n m leaf us e past (suc j) h i l =
    let below : moved_by us j + 1 ≤ 2 ^ j = low_under (operand us 1) j (omega arith) in
    let double : n * 2 ^ suc j ≡ n * 2 ^ j + n * 2 ^ j = twice n j in
    block_step (n * 2 ^ j) (n * moved_by us j) n i (bit (operand us 1) j) (λ k. tree_bit (move_tree (Blocks n) 1 m (λ j. n * 2 ^ j) leaf) j k us) (λ k. leaf k us) (low_room n (moved_by us j) (2 ^ j) below) (omega arith)
    (λ k x. block_bits n m leaf us e past j (omega arith) k x) past
    ∙ ap (λ x. nat_le x i && leaf (i - x) us) (scaled_gain n (moved_by us j) (2 ^ j) (bit (operand us 1) j) ∙ ap (λ x. n * x) (sym (low_number (operand us 1) j (omega arith))))
