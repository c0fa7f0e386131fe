-- Where the bits come from that stages move.
use Rattle.std.specs.Prelude.{ℕ, zero, suc, ◌+◌, ◌-◌, ◌*◌, ◌^◌, ◌<◌, ◌≤◌, ◌≡◌, nat_le, nat_lt, min, Bool, true, false, ◌&&◌, length, take, if◌then◌else◌}
use Rattle.std.proofs.Common.{arith, sym, ap, ◌∙◌, inl, inr}
use Rattle.std.proofs.lemmas.Bool.Decides.{nat_tests}
use Rattle.std.proofs.Math.Nat.{pow-succ'}
use Rattle.cif_defs.specs.Words.{Word, bit, bit_value, number}
use Rattle.cif_defs.proofs.NumberJoins.{number-take_more}
use Rattle.cif_defs.proofs.WordLaws.{le_or_lt}
use Rattle.rule_select.proofs.MoveReads.{left_at, left_place, left_under}

-- what a select bit adds
abbrev pub gain : Bool → ℕ → ℕ
gain s p = if s then p else 0

-- the number of one more bit
gain_is : (s : Bool) (p : ℕ) → p * bit_value s ≡ gain s p
gain_is true p = omega arith
gain_is false p = omega arith

pub low_number : (w : Word) (j : ℕ) → j < length w → number (take (suc j) w) ≡ number (take j w) + gain (bit w j) (2 ^ j)
low_number w j h =
    let next : suc j ≡ j + 1 = omega arith in
    ap (λ k. number (take k w)) next ∙ number-take_more w j h ∙ ap (λ x. number (take j w) + x) (gain_is (bit w j) (2 ^ j))

-- to the left by n so far, and by p more
pub left_more : (w n p i : ℕ) (prev f : ℕ → Bool) → ((i : ℕ) → i < w → prev i ≡ (nat_le n i && f (i - n))) → i - p < w → (p ≤ i)
    → (nat_lt (left_place w p i) w && prev (left_place w p i)) ≡ (nat_le (n + p) i && f (i - (n + p)))
left_more w n p i prev f e h l =
    let inside : nat_lt (i - p) w ≡ true = grind (arith, nat_tests) in
    let same : nat_le n (i - p) ≡ nat_le (n + p) i = grind (arith, nat_tests) in
    let place : i - p - n ≡ i - (n + p) = omega arith in
    ap (λ k. nat_lt k w && prev k) (left_at w p i l) ∙ ap (λ b. b && prev (i - p)) inside ∙ e (i - p) h ∙ ap (λ b. b && f (i - p - n)) same ∙ ap (λ k. nat_le (n + p) i && f k) place

pub left_none : (w n p i : ℕ) (prev f : ℕ → Bool) → i < p → (nat_lt (left_place w p i) w && prev (left_place w p i)) ≡ (nat_le (n + p) i && f (i - (n + p)))
left_none w n p i prev f l =
    let outside : nat_lt w w ≡ false = grind (arith, nat_tests) in
    let below : nat_le (n + p) i ≡ false = grind (arith, nat_tests) in
    ap (λ k. nat_lt k w && prev k) (left_under w p i l) ∙ ap (λ b. b && prev w) outside ∙ sym (ap (λ b. b && f (i - (n + p))) below)

pub kept_bit : (w i : ℕ) (prev : ℕ → Bool) → i < w → (nat_lt i w && prev i) ≡ prev i
kept_bit w i prev h = let inside : nat_lt i w ≡ true = grind (arith, nat_tests) in ap (λ b. b && prev i) inside

none_more : (n i : ℕ) (f : ℕ → Bool) → (nat_le n i && f (i - n)) ≡ (nat_le (n + 0) i && f (i - (n + 0)))
none_more n i f = let e : n ≡ n + 0 = omega arith in ap (λ k. nat_le k i && f (i - k)) e

pub left_step : (w n p i : ℕ) (s : Bool) (prev f : ℕ → Bool) → ((i : ℕ) → i < w → prev i ≡ (nat_le n i && f (i - n))) → i < w
    → (if s then nat_lt (left_place w p i) w && prev (left_place w p i) else nat_lt i w && prev i) ≡ (nat_le (n + gain s p) i && f (i - (n + gain s p)))
left_step w n p i true prev f e h = elim (le_or_lt i p) [
  | inl l ↦ left_none w n p i prev f l
  | inr l ↦ left_more w n p i prev f e (omega arith) l
]
left_step w n p i false prev f e h = kept_bit w i prev h ∙ e i h ∙ none_more n i f

-- to the right
right_more : (w n p i : ℕ) (prev f : ℕ → Bool) → ((i : ℕ) → i < w → prev i ≡ (nat_lt (i + n) w && f (i + n))) → (nat_lt (i + p) w && prev (i + p)) ≡ (nat_lt (i + (n + p)) w && f (i + (n + p)))
right_more w n p i prev f e = elim (le_or_lt (i + p) w) [
  | inl l ↦ (let place : i + p + n ≡ i + (n + p) = omega arith in kept_bit w (i + p) prev l ∙ e (i + p) l ∙ ap (λ k. nat_lt k w && f k) place)
  | inr l ↦ (let outside : nat_lt (i + p) w ≡ false = grind (arith, nat_tests) in
      let past : nat_lt (i + (n + p)) w ≡ false = grind (arith, nat_tests) in
      ap (λ b. b && prev (i + p)) outside ∙ sym (ap (λ b. b && f (i + (n + p))) past))
]

pub right_step : (w n p i : ℕ) (s : Bool) (prev f : ℕ → Bool) → ((i : ℕ) → i < w → prev i ≡ (nat_lt (i + n) w && f (i + n))) → i < w
    → (if s then nat_lt (i + p) w && prev (i + p) else nat_lt i w && prev i) ≡ (nat_lt (i + (n + gain s p)) w && f (i + (n + gain s p)))
right_step w n p i true prev f e h = right_more w n p i prev f e
right_step w n p i false prev f e h = let same : i + n ≡ i + (n + 0) = omega arith in kept_bit w i prev h ∙ e i h ∙ ap (λ k. nat_lt k w && f k) same

-- to the right with the highest bit
pub signed_step : (w n p i : ℕ) (s : Bool) (prev f : ℕ → Bool) → ((i : ℕ) → i < w → prev i ≡ f (min (i + n) (w - 1))) → i < w
    → (if s then nat_lt (min (i + p) (w - 1)) w && prev (min (i + p) (w - 1)) else nat_lt i w && prev i) ≡ f (min (i + (n + gain s p)) (w - 1))
signed_step w n p i true prev f e h =
    let inside : min (i + p) (w - 1) < w = omega arith in
    let place : min (min (i + p) (w - 1) + n) (w - 1) ≡ min (i + (n + p)) (w - 1) = omega arith in
    kept_bit w (min (i + p) (w - 1)) prev inside ∙ e (min (i + p) (w - 1)) inside ∙ ap f place
signed_step w n p i false prev f e h = let same : min (i + n) (w - 1) ≡ min (i + (n + 0)) (w - 1) = omega arith in kept_bit w i prev h ∙ e i h ∙ ap f same

gain_most : (s : Bool) (p : ℕ) → gain s p ≤ p
gain_most true p = omega arith
gain_most false p = omega arith

-- the number of the lowest j bits
pub low_under : (w : Word) (j : ℕ) → j ≤ length w → number (take j w) + 1 ≤ 2 ^ j
low_under w zero h = omega arith
low_under w (suc j) h =
    let before : number (take j w) + 1 ≤ 2 ^ j = low_under w j (omega arith) in
    let more : number (take (suc j) w) ≡ number (take j w) + gain (bit w j) (2 ^ j) = low_number w j (omega arith) in
    let most : gain (bit w j) (2 ^ j) ≤ 2 ^ j = gain_most (bit w j) (2 ^ j) in
    let power : 2 ^ suc j ≡ 2 * 2 ^ j = pow-succ' 2 j in
    omega arith

pub low_below : (w : Word) (j : ℕ) → j ≤ length w → number (take j w) ≤ 2 ^ j
low_below w j h = let under : number (take j w) + 1 ≤ 2 ^ j = low_under w j h in omega arith
