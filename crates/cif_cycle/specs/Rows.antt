-- A row of bits put into a longer word.
use Rattle.std.specs.Prelude.{ℕ, ◌+◌, ◌<◌, ◌≤◌, ◌≡◌, length}
use Rattle.cif_defs.specs.Words.{Word, bit}

-- new is old with the bits of a row from a place on
pub record IsPutAt (place : ℕ) (row old new : Word) : Type 0 where
  pub as_long : length new ≡ length old
  pub inside : (i : ℕ) → i < length row → bit new (place + i) ≡ bit row i
  pub below : (k : ℕ) → k < place → bit new k ≡ bit old k
  pub above : (k : ℕ) → place + length row ≤ k → bit new k ≡ bit old k
