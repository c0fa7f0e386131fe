-- Forms of bitwise, reducing and wiring cells: what they say of a cell.
use Rattle.std.specs.Prelude.{ℕ, ◌+◌, ◌≤◌, ◌≡◌, List, [], ◌∷◌}
use Rattle.cif_defs.specs.Words.{Word, operand}
use Rattle.cif_defs.specs.Meanings.{concat_word, slice_word, fa_majority_word, fa_sum_word}
use Rattle.cif_defs.specs.Cells.{Cell, meaning}
use Rattle.cif_defs.specs.Fitted.{operand_widths}
use Rattle.cif_term.specs.CellTaints.{AreOperands, taint_words}
use Rattle.word_numbers.specs.NarrowCells.{output_widths}
use Rattle.word_logic.specs.declared.form.LogicForm.{LogicForm}
use Rattle.word_logic.specs.declared.form.LogicForm.TheVariants.{Unary, Binary, Joined, Sliced, Adder}
use Rattle.word_logic.specs.Extensions.{IsBinaryForm, IsUnaryForm}
use Rattle.word_logic.specs.LogicWords.{binary_taint, binary_word, carry_taint, parity_taint, unary_taint, unary_word}

-- the widths of operands, and of outputs
abbrev pub form_operands : LogicForm → List ℕ
form_operands (Unary k e) = e.from ∷ []
form_operands (Binary k e m) = e.from ∷ m ∷ []
form_operands (Joined m n) = m ∷ n ∷ []
form_operands (Sliced m at n) = m ∷ []
form_operands (Adder n) = n ∷ n ∷ n ∷ []

abbrev pub form_outputs : LogicForm → List ℕ
form_outputs (Unary k e) = e.to ∷ []
form_outputs (Binary k e m) = e.to ∷ []
form_outputs (Joined m n) = (m + n) ∷ []
form_outputs (Sliced m at n) = n ∷ []
form_outputs (Adder n) = n ∷ n ∷ []

-- what a form gives
abbrev pub form_words : LogicForm → List Word → List Word
form_words (Unary k e) us = unary_word k e.to e.signed (operand us 0) ∷ []
form_words (Binary k e m) us = binary_word k e.to e.signed (operand us 0) (operand us 1) ∷ []
form_words (Joined m n) us = concat_word m n (operand us 0) (operand us 1) ∷ []
form_words (Sliced m at n) us = slice_word n at (operand us 0) ∷ []
form_words (Adder n) us = fa_majority_word n (operand us 0) (operand us 1) (operand us 2) ∷ fa_sum_word n (operand us 0) (operand us 1) (operand us 2) ∷ []

-- the taint of what it gives
abbrev pub form_taints : LogicForm → List Word → List Word → List Word
form_taints (Unary k e) vs ts = unary_taint k e.to e.signed (operand vs 0) (operand ts 0) ∷ []
form_taints (Binary k e m) vs ts = binary_taint k e.to e.signed (operand vs 0) (operand ts 0) (operand vs 1) (operand ts 1) ∷ []
form_taints (Joined m n) vs ts = concat_word m n (operand ts 0) (operand ts 1) ∷ []
form_taints (Sliced m at n) vs ts = slice_word n at (operand ts 0) ∷ []
form_taints (Adder n) vs ts = carry_taint n (operand vs 0) (operand ts 0) (operand vs 1) (operand ts 1) (operand vs 2) (operand ts 2) ∷ parity_taint n (operand ts 0) (operand ts 1) (operand ts 2) ∷ []

-- widths that go together, of 1 to 128 bits
pub record IsJoin (m n : ℕ) : Type 0 where
  pub some_low : 1 ≤ m
  pub some_high : 1 ≤ n
  pub limit : m + n ≤ 128

pub record IsPart (m at n : ℕ) : Type 0 where
  pub some : 1 ≤ n
  pub inside : at + n ≤ m
  pub limit : m ≤ 128

pub record IsWidth (n : ℕ) : Type 0 where
  pub some : 1 ≤ n
  pub limit : n ≤ 128

abbrev pub IsSound : LogicForm → Type 0
IsSound (Unary k e) = IsUnaryForm k e
IsSound (Binary k e m) = IsBinaryForm k e m
IsSound (Joined m n) = IsJoin m n
IsSound (Sliced m at n) = IsPart m at n
IsSound (Adder n) = IsWidth n

-- a form says all that a cell's outputs and their taints depend on beside the words of its operands
pub record StandsFor (f : LogicForm) (c : Cell) : Type 0 where
  pub sound : IsSound f
  pub operands : operand_widths c ≡ form_operands f
  pub outputs : output_widths c ≡ form_outputs f
  pub words : (us : List Word) → meaning c us ≡ form_words f us
  pub taints : (vs ts : List Word) → AreOperands c vs → AreOperands c ts → taint_words c vs ts ≡ form_taints f vs ts
