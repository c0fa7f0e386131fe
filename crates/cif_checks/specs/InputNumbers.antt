-- When two lists hold the same numbers.
use Rattle.std.specs.Prelude.{ℕ, ◌≡◌, List}
use Rattle.cif_checks.specs.Checks.{has_number}

abbrev pub HoldSame : List ℕ → List ℕ → Type 0
HoldSame xs ys = (x : ℕ) → has_number x xs ≡ has_number x ys
