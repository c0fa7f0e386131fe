-- Words of outputs that numbers hold.
use Rattle.std.specs.Prelude.{ℕ, ◌<◌, ◌≤◌, ◌≡◌, ◌-◌, ◌+◌, ◌^◌, [], ◌∷◌, map, length}
use Rattle.std.proofs.Common.{arith, sym, ap, subst, ◌∙◌}
use Rattle.std.proofs.Math.Pow.{pow_mono}
use Rattle.cif_defs.specs.Words.{Word, digit, word_of}
use Rattle.cif_defs.specs.Cells.{Cell, meaning}
use Rattle.cif_defs.specs.Fitted.{operand_widths}
use Rattle.cif_defs.proofs.WordLaws.{length-word}
use Rattle.cif_term.specs.CellTaints.{AreOperands, taint_words}
use Rattle.word_numbers.specs.HeldWords.{AreNarrow, words_held}
use Rattle.word_numbers.specs.declared.words.Words.{Words}
use Rattle.word_numbers.specs.NarrowCells.{output_widths}
use Rattle.word_logic.specs.declared.form.LogicForm.{LogicForm}
use Rattle.word_logic.specs.declared.form.LogicForm.TheVariants.{Unary, Binary, Joined, Sliced, Adder}
use Rattle.word_logic.specs.LogicForms.{StandsFor, form_operands, form_outputs, form_taints, form_words}

-- ---- one output, and two

pub one_held : (n x : ℕ) (u : Word) (w : Words) → w ≡ record { a = x; b = 0; c = 0; d = 0 } → word_of n x ≡ u → words_held (n ∷ []) w ≡ u ∷ []
one_held n x u w e f = ap (words_held (n ∷ [])) e ∙ ap (λ (v : Word). v ∷ []) f

pub one_narrow : (n x : ℕ) (w : Words) → w ≡ record { a = x; b = 0; c = 0; d = 0 } → x < 2 ^ n → AreNarrow (n ∷ []) w
one_narrow n x w e h = subst (AreNarrow (n ∷ [])) (sym e) (record { a = h; b = omega arith; c = omega arith; d = omega arith })

pub two_held : (n m x y : ℕ) (u v : Word) (w : Words) → w ≡ record { a = x; b = y; c = 0; d = 0 } → word_of n x ≡ u → word_of m y ≡ v → words_held (n ∷ m ∷ []) w ≡ u ∷ v ∷ []
two_held n m x y u v w e f g = ap (words_held (n ∷ m ∷ [])) e ∙ ap (λ (t : Word). t ∷ word_of m y ∷ []) f ∙ ap (λ (t : Word). u ∷ t ∷ []) g

pub two_narrow : (n m x y : ℕ) (w : Words) → w ≡ record { a = x; b = y; c = 0; d = 0 } → x < 2 ^ n → y < 2 ^ m → AreNarrow (n ∷ m ∷ []) w
two_narrow n m x y w e h k = subst (AreNarrow (n ∷ m ∷ [])) (sym e) (record { a = h; b = k; c = omega arith; d = omega arith })

-- room above the first of two words
pub room_above : (m n x : ℕ) → m + n ≤ 128 → x < 2 ^ n → x < 2 ^ (128 - m)
room_above m n x h l = let more : 2 ^ n ≤ 2 ^ (128 - m) = pow_mono {i = n} {j = 128 - m} (omega arith) in omega arith

-- ---- from forms to cells

pub words_of_cell : (f : LogicForm) (c : Cell) (v r : Words) → StandsFor f c → words_held (form_outputs f) r ≡ form_words f (words_held (form_operands f) v)
    → words_held (output_widths c) r ≡ meaning c (words_held (operand_widths c) v)
words_of_cell f c v r s e =
    ap (λ ns. words_held ns r) s.outputs ∙ e ∙ sym (s.words (words_held (form_operands f) v)) ∙ ap (λ ns. meaning c (words_held ns v)) (sym s.operands)

-- the words of a form's operands have their widths
long_words : (f : LogicForm) (v : Words) → map length (words_held (form_operands f) v) ≡ form_operands f
long_words (Unary k e) v = ap (λ n. n ∷ []) (length-word e.from (λ i. digit v.a i))
long_words (Binary k e m) v = ap (λ n. n ∷ length (word_of m v.b) ∷ []) (length-word e.from (λ i. digit v.a i)) ∙ ap (λ n. e.from ∷ n ∷ []) (length-word m (λ i. digit v.b i))
long_words (Joined m n) v = ap (λ j. j ∷ length (word_of n v.b) ∷ []) (length-word m (λ i. digit v.a i)) ∙ ap (λ j. m ∷ j ∷ []) (length-word n (λ i. digit v.b i))
long_words (Sliced m at n) v = ap (λ j. j ∷ []) (length-word m (λ i. digit v.a i))
long_words (Adder n) v =
    ap (λ j. j ∷ length (word_of n v.b) ∷ length (word_of n v.c) ∷ []) (length-word n (λ i. digit v.a i))
    ∙ ap (λ j. n ∷ j ∷ length (word_of n v.c) ∷ []) (length-word n (λ i. digit v.b i)) ∙ ap (λ j. n ∷ n ∷ j ∷ []) (length-word n (λ i. digit v.c i))

are_operands : (f : LogicForm) (c : Cell) (v : Words) → StandsFor f c → AreOperands c (words_held (form_operands f) v)
are_operands f c v s = long_words f v ∙ sym s.operands

pub taints_of_cell : (f : LogicForm) (c : Cell) (v t r : Words) → StandsFor f c → words_held (form_outputs f) r ≡ form_taints f (words_held (form_operands f) v) (words_held (form_operands f) t)
    → words_held (output_widths c) r ≡ taint_words c (words_held (operand_widths c) v) (words_held (operand_widths c) t)
taints_of_cell f c v t r s e =
    ap (λ ns. words_held ns r) s.outputs ∙ e ∙ sym (s.taints (words_held (form_operands f) v) (words_held (form_operands f) t) (are_operands f c v s) (are_operands f c t s))
    ∙ ap (λ ns. taint_words c (words_held ns v) (words_held ns t)) (sym s.operands)
