-- The operands of a cell, and the taint that a formula gives for them.
use Rattle.std.specs.Prelude.{ℕ, ◌^◌, ◌<◌, Bool, List, [], ◌∷◌, ℤ}
use Rattle.cif_defs.specs.Meanings.{compared}
use Rattle.cif_defs.specs.Words.{Word, word_of}
use Rattle.cif_term.specs.Formulas.{Formula, value_of}
use Rattle.word_sums.specs.declared.shape.Pair.{Pair}
use Rattle.word_sums.specs.declared.shape.Shape.{Shape}

-- numbers of the widths of A and B
pub record IsPairOf (s : Shape) (x : Pair) : Type 0 where
  pub a : x.a < 2 ^ s.a
  pub b : x.b < 2 ^ s.b

-- the words of A and B
abbrev pub pair_words : Shape → Pair → List Word
pair_words s x = word_of s.a x.a ∷ word_of s.b x.b ∷ []

-- a formula over the width of Y, the common sign, and the widths of A and B
unfoldable pub taint_of : (ℕ → Bool → ℕ → ℕ → Formula) → Shape → Pair → Pair → Word
taint_of f s values taints = value_of (f s.y s.signed s.a s.b) (pair_words s values) (pair_words s taints) []

-- the same for a cell with operand A alone
unfoldable pub taint_of_one : (ℕ → Bool → ℕ → Formula) → Shape → ℕ → ℕ → Word
taint_of_one f s value taint = value_of (f s.y s.signed s.a) (word_of s.a value ∷ []) (word_of s.a taint ∷ []) []

-- ---- values

-- the row of a kind with two operands
abbrev pub row_of : (ℕ → Bool → Word → Word → Word) → Shape → Pair → Word
row_of f s x = f s.y s.signed (word_of s.a x.a) (word_of s.b x.b)

-- a comparison of A and B
unfoldable pub compared_of : (ℤ → ℤ → Bool) → Shape → Pair → Bool
compared_of f s x = compared f s.signed (word_of s.a x.a) (word_of s.b x.b)
