-- What the lists of the stores and sinks in memory are seen as.
use Rattle.std.specs.Prelude.{ℕ, List}

-- bytes, and how many more there is room for
pub record Buffer : Type 0 where
  pub items : List ℕ
  pub room : ℕ
