-- How far the stages of trees move words.
use Rattle.std.specs.Prelude.{ℕ, ◌+◌, ◌*◌, ◌^◌, ◌<◌, ◌≤◌, ◌≡◌}
use Rattle.std.proofs.Common.{arith, inl, inr}
use Rattle.std.proofs.Math.Nat.{mul-le-mul_left, mul-le-mul_right}
use Rattle.cif_defs.proofs.WordLaws.{le_or_lt}
use Rattle.std.proofs.Math.Pow.{pow_mono}
use Rattle.rule_select.specs.Moves.{FitsBy, step_of}
use Rattle.rule_select.specs.declared.moves.Moves.{Moves}
use Rattle.rule_select.specs.declared.moves.Moves.TheVariants.{Left, Rising, Right, Signed, Halves, Blocks, Chain}

-- a word of at most 65,536 bits moves past its end by select bit 17 and by each above it
pub past_step : (n k : ℕ) → n ≤ 65536 → 17 ≤ k → n ≡ step_of n k
past_step n k h l = let far : 2 ^ 17 ≤ 2 ^ k = pow_mono l in omega arith

-- a word of at most 65,536 bits has few select bits
pub few_selects : (n k : ℕ) → 1 ≤ n → n * 2 ^ k ≤ 65536 → k ≤ 16
few_selects n k a b = elim (le_or_lt k 17) [
  | inl h ↦ omega arith
  | inr h ↦ absurd (let far : 2 ^ 17 ≤ 2 ^ k = pow_mono h in let more : n * 2 ^ 17 ≤ n * 2 ^ k = mul-le-mul_left n far in omega arith)
]

scaled_before : (n k m : ℕ) → k < m → n * 2 ^ m ≤ 65536 → n * 2 ^ (k + 1) ≤ 65536
scaled_before n k m h l = let power : 2 ^ (k + 1) ≤ 2 ^ m = pow_mono (omega arith) in let more : n * 2 ^ (k + 1) ≤ n * 2 ^ m = mul-le-mul_left n power in omega arith

-- what fits with all select bits fits with fewer
pub fits_before : (moves : Moves) (k m : ℕ) → k < m → FitsBy moves m → FitsBy moves (k + 1)
unfolding FitsBy
fits_before (Left n) k m h f = f
fits_before (Rising n) k m h f = f
fits_before (Right n) k m h f = f
fits_before (Signed n) k m h f = f
fits_before (Halves n) k m h f = (f.0, scaled_before n k m h f.1)
fits_before (Blocks n) k m h f = (f.0, scaled_before n k m h f.1)
fits_before (Chain n) k m h f = let more : (k + 1) * n ≤ m * n = mul-le-mul_right n (omega arith) in let few : m * n ≤ 65536 = f in omega arith
