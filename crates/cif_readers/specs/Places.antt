-- Numbers in a list.
use Rattle.std.specs.Prelude.{ℕ, ◌<◌, ◌≤◌, ◌≡◌, List, length, get_or}

-- a number stands in a list
pub record IsAmong (numbers : List ℕ) (x : ℕ) : Type 0 where
  pub place : ℕ
  pub inside : place < length numbers
  pub is : get_or numbers place 0 ≡ x

-- a number stands in a list from one place up to another
pub record IsBetween (numbers : List ℕ) (from to x : ℕ) : Type 0 where
  pub place : ℕ
  pub from_first : from ≤ place
  pub before_last : place < to
  pub is : get_or numbers place 0 ≡ x
