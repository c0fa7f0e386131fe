-- The coarse taint of products and divisions, for operands that numbers hold.
use Rattle.std.specs.Prelude.{Bool, ◌&&◌, ◌||◌}
use Rattle.cif_defs.specs.Coarse.{division_taint, max_word, product_taint, quotient_taint}
use Rattle.cif_defs.specs.Words.{Word, has_one, word_of}
use Rattle.word_sums.specs.declared.shape.Pair.{Pair}
use Rattle.word_sums.specs.declared.shape.Shape.{Shape}

-- whether an operand is tainted and B can be other than 0
abbrev pub divides_of : Shape → Pair → Pair → Bool
divides_of s values taints = (has_one (word_of s.a taints.a) || has_one (word_of s.b taints.b)) && has_one (max_word (word_of s.b values.b) (word_of s.b taints.b))

unfoldable pub division_taint_of : Shape → Pair → Pair → Word
division_taint_of s values taints = division_taint s.y (word_of s.a taints.a) (word_of s.b values.b) (word_of s.b taints.b)

unfoldable pub product_taint_of : Shape → Pair → Pair → Word
product_taint_of s values taints = product_taint s.y s.signed (word_of s.a values.a) (word_of s.a taints.a) (word_of s.b values.b) (word_of s.b taints.b)

unfoldable pub quotient_taint_of : Shape → Pair → Pair → Word
quotient_taint_of s values taints = quotient_taint s.y (word_of s.a values.a) (word_of s.a taints.a) (word_of s.b values.b) (word_of s.b taints.b)
