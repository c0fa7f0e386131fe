-- Trees whose stages halve words, or double them.
use Rattle.std.specs.Prelude.{ℕ, suc, ◌+◌, ◌-◌, ◌*◌, ◌^◌, ◌<◌, ◌≤◌, ◌≡◌, Bool, true, false, refl}
use Rattle.std.proofs.Common.{arith, sym, ap, subst, ◌∙◌}
use Rattle.std.proofs.Math.Nat.{mul-le-mul_left, pow-succ'}
use Rattle.std.proofs.Math.Pow.{pow_mono}
use Rattle.std.proofs.lemmas.Nat.{pow_pos}
use Rattle.cif_defs.specs.Words.{bit}
use Rattle.cif_defs.proofs.Numbers.{word-same}
use Rattle.cif_term.specs.Formulas.{Formula, value_of}
use Rattle.rule_select.specs.declared.moves.Moves.TheVariants.{Blocks, Halves}
use Rattle.rule_select.specs.Moves.{lower_half, order_by, parts_by, upper_half}
use Rattle.rule_select.proofs.MoveReads.{left_at, left_place, left_under}
use Rattle.rule_select.proofs.MoveTrees.{IsMoving, place_by}
use Rattle.rule_select.proofs.PlacedParts.{Reads, reads_run, reads_window}
use Rattle.rule_select.proofs.WindowLaws.{IsWindow, formed_places, picked-from}

-- a part that reads as at other widths that are the same
reads_at : (part : Formula → Formula) (w w' n n' : ℕ) (place : ℕ → ℕ) → w ≡ w' → n ≡ n' → Reads part w n place → Reads part w' n' place
reads_at part w w' n n' place e d r = subst (λ x. Reads part w' x place) d (subst (λ x. Reads part x n place) e r)

-- ---- halves

lower_reads : (h : ℕ) → 1 ≤ h → h ≤ 65536 → Reads (lower_half h) (h + h) h (λ i. i)
lower_reads h a b = record {
  value = λ f vs ts named e. picked-from 0 h (value_of f vs ts named) ∙ word-same h _ _ (λ i l. let same : 0 + i ≡ i = omega arith in ap (bit (value_of f vs ts named)) same);
  formed = λ f ws named g. formed_places 0 h g (omega arith) a b;
}

upper_reads : (h : ℕ) → 1 ≤ h → h ≤ 65536 → Reads (upper_half h) (h + h) h (λ i. h + i)
upper_reads h a b = reads_run (h + h) h h (omega arith) a b

half_parts : (n k : ℕ) (one tainted : Bool) → 1 ≤ n * 2 ^ k → n * 2 ^ k ≤ 65536 → Reads (parts_by (Halves n) k one tainted) (n * 2 ^ k + n * 2 ^ k) (n * 2 ^ k) (place_by (Halves n) k one)
unfolding parts_by place_by
half_parts n k true tainted a b = upper_reads (n * 2 ^ k) a b
half_parts n k false tainted a b = lower_reads (n * 2 ^ k) a b

-- ---- doubles

lower_window : (w : ℕ) → IsWindow w 0 0 w w (λ i. i)
lower_window w = record { under = λ i h. absurd (omega arith); inside = λ i h. refl; over = λ i h l. omega arith }

upper_window : (w : ℕ) → IsWindow w w 0 w 0 (left_place w w)
upper_window w = record {
  under = λ i h. let e : left_place w w i ≡ w = left_under w w i h in omega arith;
  inside = λ i h. let e : left_place w w (w + i) ≡ w + i - w = left_at w w (w + i) (omega arith) in omega arith;
  over = λ i h l. absurd (omega arith);
}

block_parts : (n k : ℕ) (one tainted : Bool) → 1 ≤ n * 2 ^ k → n * 2 ^ k + n * 2 ^ k ≤ 65536 → Reads (parts_by (Blocks n) k one tainted) (n * 2 ^ k) (n * 2 ^ k + n * 2 ^ k) (place_by (Blocks n) k one)
unfolding parts_by place_by
block_parts n k true tainted a b = reads_window (n * 2 ^ k) (n * 2 ^ k) 0 (n * 2 ^ k) 0 (n * 2 ^ k + n * 2 ^ k) (left_place (n * 2 ^ k) (n * 2 ^ k)) (upper_window (n * 2 ^ k)) (omega arith) (omega arith) (omega arith) b
block_parts n k false tainted a b = reads_window (n * 2 ^ k) 0 0 (n * 2 ^ k) (n * 2 ^ k) (n * 2 ^ k + n * 2 ^ k) (λ i. i) (lower_window (n * 2 ^ k)) (omega arith) (omega arith) (omega arith) b

-- ---- their widths

pub twice : (n k : ℕ) → n * 2 ^ suc k ≡ n * 2 ^ k + n * 2 ^ k
twice n k = ap (λ x. n * x) (pow-succ' 2 k) ∙ (omega arith)

pub scaled_some : (n k : ℕ) → 1 ≤ n → 1 ≤ n * 2 ^ k
scaled_some n k h = let some : 0 < 2 ^ k = pow_pos k in let more : n * 1 ≤ n * 2 ^ k = mul-le-mul_left n some in omega arith

pub scaled_most : (n k m : ℕ) → k ≤ m → n * 2 ^ k ≤ n * 2 ^ m
scaled_most n k m h = mul-le-mul_left n (pow_mono h)

-- the width of a word that is halved m times, after j times
abbrev pub halved : ℕ → ℕ → ℕ → ℕ
halved n m j = n * 2 ^ (m - j)

pub half_is : (n m j : ℕ) → j < m → halved n m j ≡ n * 2 ^ (m - suc j) + n * 2 ^ (m - suc j)
half_is n m j h = let next : m - j ≡ suc (m - suc j) = omega arith in ap (λ k. n * 2 ^ k) next ∙ twice n (m - suc j)

pub half_moving : (n m : ℕ) → 1 ≤ n → n * 2 ^ m ≤ 65536 → IsMoving (Halves n) m (halved n m)
unfolding order_by
half_moving n m a b = record {
  within = λ j h. omega arith;
  apart = λ j k l h e. absurd (omega arith);
  some = λ j h. scaled_some n (m - j) a;
  few = λ j h. let most : n * 2 ^ (m - j) ≤ n * 2 ^ m = scaled_most n (m - j) m (omega arith) in omega arith;
  reads = λ j one tainted h.
      let most : n * 2 ^ (m - suc j) ≤ n * 2 ^ m = scaled_most n (m - suc j) m (omega arith) in
      reads_at (parts_by (Halves n) (m - suc j) one tainted) (n * 2 ^ (m - suc j) + n * 2 ^ (m - suc j)) (halved n m j) (n * 2 ^ (m - suc j)) (halved n m (suc j)) (place_by (Halves n) (m - suc j) one)
      (sym (half_is n m j h)) refl (half_parts n (m - suc j) one tainted (scaled_some n (m - suc j) a) (omega arith));
}

pub block_moving : (n m : ℕ) → 1 ≤ n → n * 2 ^ m ≤ 65536 → IsMoving (Blocks n) m (λ j. n * 2 ^ j)
unfolding order_by
block_moving n m a b = record {
  within = λ j h. h;
  apart = λ j k l h e. absurd (omega arith);
  some = λ j h. scaled_some n j a;
  few = λ j h. let most : n * 2 ^ j ≤ n * 2 ^ m = scaled_most n j m h in omega arith;
  reads = λ j one tainted h.
      let most : n * 2 ^ suc j ≤ n * 2 ^ m = scaled_most n (suc j) m (omega arith) in
      let double : n * 2 ^ suc j ≡ n * 2 ^ j + n * 2 ^ j = twice n j in
      reads_at (parts_by (Blocks n) j one tainted) (n * 2 ^ j) (n * 2 ^ j) (n * 2 ^ j + n * 2 ^ j) (n * 2 ^ suc j) (place_by (Blocks n) j one) refl (sym double)
      (block_parts n j one tainted (scaled_some n j a) (omega arith));
}
