-- Numbers of the widths of the operands of $alu: A, B, and the bits CI and BI.
use Rattle.std.specs.Prelude.{ℕ, ◌^◌, ◌<◌, Bool, List, [], ◌∷◌}
use Rattle.cif_defs.specs.Words.{Word, word_of}
use Rattle.cif_term.specs.Formulas.{Formula, value_of}
use Rattle.word_numbers.specs.declared.words.Words.{Words}
use Rattle.word_sums.specs.declared.shape.Shape.{Shape}

pub record AreAluWords (s : Shape) (w : Words) : Type 0 where
  pub a : w.a < 2 ^ s.a
  pub b : w.b < 2 ^ s.b
  pub c : w.c < 2
  pub d : w.d < 2

-- the words of A, B, CI and BI
abbrev pub alu_words : Shape → Words → List Word
alu_words s w = word_of s.a w.a ∷ word_of s.b w.b ∷ word_of 1 w.c ∷ word_of 1 w.d ∷ []

-- a formula over the width of the outputs, the common sign, and the widths of A and B
unfoldable pub alu_taint_of : (ℕ → Bool → ℕ → ℕ → Formula) → Shape → Words → Words → Word
alu_taint_of f s values taints = value_of (f s.y s.signed s.a s.b) (alu_words s values) (alu_words s taints) []
