-- The rows of kinds from flags.
use Rattle.std.specs.Prelude.{ℕ, ◌≤◌, ◌≡◌, Bool, true, false, not, int_lt, int_le, refl}
use Rattle.std.specs.Ordering.{int_eq}
use Rattle.std.proofs.Common.{ap, ◌∙◌}
use Rattle.cif_defs.specs.Meanings.{eq_word, ge_word, gt_word, le_word, lt_word, ne_word}
use Rattle.cif_defs.specs.Words.{flag_word, word_of}
use Rattle.word_sums.specs.declared.shape.Pair.{Pair}
use Rattle.word_sums.specs.declared.shape.Shape.{Shape}
use Rattle.word_sums.specs.Operands.{compared_of, row_of}
use Rattle.word_sums.proofs.OrderLaws.{HoldsFlag}

pub eq_is : (s : Shape) (x : Pair) (r : ℕ) (d : Bool) → 1 ≤ s.y → HoldsFlag r d → d ≡ compared_of int_eq s x → word_of s.y r ≡ row_of eq_word s x
unfolding compared_of
eq_is s x r d some h e = h s.y some ∙ ap (flag_word s.y) e

pub ne_is : (s : Shape) (x : Pair) (r : ℕ) (d : Bool) → 1 ≤ s.y → HoldsFlag r (not d) → d ≡ compared_of int_eq s x → word_of s.y r ≡ row_of ne_word s x
unfolding compared_of
ne_is s x r d some h e = h s.y some ∙ ap (λ b. flag_word s.y (not b)) e

pub lt_is : (s : Shape) (x : Pair) (r : ℕ) (d : Bool) → 1 ≤ s.y → HoldsFlag r d → d ≡ compared_of int_lt s x → word_of s.y r ≡ row_of lt_word s x
unfolding compared_of
lt_is s x r d some h e = h s.y some ∙ ap (flag_word s.y) e

pub ge_is : (s : Shape) (x : Pair) (r : ℕ) (d : Bool) → 1 ≤ s.y → HoldsFlag r (not d) → d ≡ compared_of int_lt s x → word_of s.y r ≡ row_of ge_word s x
unfolding compared_of
ge_is s x r d some h e = h s.y some ∙ ap (λ b. flag_word s.y (not b)) e

twice_not : (b : Bool) → b ≡ not (not b)
twice_not true = refl
twice_not false = refl

pub le_is : (s : Shape) (x : Pair) (r : ℕ) (d : Bool) → 1 ≤ s.y → HoldsFlag r (not d) → not d ≡ compared_of int_le s x → word_of s.y r ≡ row_of le_word s x
unfolding compared_of
le_is s x r d some h e = h s.y some ∙ ap (flag_word s.y) e

pub gt_is : (s : Shape) (x : Pair) (r : ℕ) (d : Bool) → 1 ≤ s.y → HoldsFlag r d → not d ≡ compared_of int_le s x → word_of s.y r ≡ row_of gt_word s x
unfolding compared_of
gt_is s x r d some h e = h s.y some ∙ ap (flag_word s.y) (twice_not d) ∙ ap (λ b. flag_word s.y (not b)) e
