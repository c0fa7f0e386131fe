-- Forms of cells that select and shift: what they say of a cell.
use Rattle.std.specs.Prelude.{ℕ, ◌*◌, ◌^◌, ◌≤◌, ◌≡◌, false, List, [], ◌∷◌}
use Rattle.cif_defs.specs.Words.{Word, operand}
use Rattle.cif_defs.specs.Meanings.{bmux_word, demux_word, lut_word, mux_word, pmux_word, shift_word, shiftx_word, shl_word, shr_word, sshr_word}
use Rattle.cif_defs.specs.Cells.{Cell, meaning}
use Rattle.cif_defs.specs.Fitted.{operand_widths}
use Rattle.cif_term.specs.CellTaints.{AreOperands, taint_words}
use Rattle.word_numbers.specs.NarrowCells.{output_widths}
use Rattle.word_choices.specs.ReadForms.{HasForm, table_word}
use Rattle.word_choices.specs.Shadows.{exact_word}
use Rattle.word_choices.specs.declared.form.SelectForm.{SelectForm}
use Rattle.word_choices.specs.declared.form.SelectForm.TheVariants.{Mux, Pmux, Bmux, Demux, Lut, Left, Right, Signed, Offset, Indexed}

-- the widths of operands, and of the output
abbrev pub form_operands : SelectForm → List ℕ
form_operands (Mux n) = n ∷ n ∷ 1 ∷ []
form_operands (Pmux c) = c.width ∷ c.width * c.selects ∷ c.selects ∷ []
form_operands (Bmux b) = b.width * 2 ^ b.selects ∷ b.selects ∷ []
form_operands (Demux b) = b.width ∷ b.selects ∷ []
form_operands (Lut t) = t.address ∷ []
form_operands (Left s) = s.a ∷ s.b ∷ []
form_operands (Right s) = s.a ∷ s.b ∷ []
form_operands (Signed s) = s.a ∷ s.b ∷ []
form_operands (Offset s) = s.a ∷ s.b ∷ []
form_operands (Indexed s) = s.a ∷ s.b ∷ []

abbrev pub form_output : SelectForm → ℕ
form_output (Mux n) = n
form_output (Pmux c) = c.width
form_output (Bmux b) = b.width
form_output (Demux b) = b.width * 2 ^ b.selects
form_output (Lut t) = 1
form_output (Left s) = s.y
form_output (Right s) = s.y
form_output (Signed s) = s.y
form_output (Offset s) = s.y
form_output (Indexed s) = s.y

-- what a form gives
abbrev pub form_word : SelectForm → List Word → Word
form_word (Mux n) us = mux_word n (operand us 0) (operand us 1) (operand us 2)
form_word (Pmux c) us = pmux_word c.width (operand us 0) (operand us 1) (operand us 2)
form_word (Bmux b) us = bmux_word b.width (operand us 0) (operand us 1)
form_word (Demux b) us = demux_word b.width b.selects (operand us 0) (operand us 1)
form_word (Lut t) us = lut_word (table_word t) (operand us 0)
form_word (Left s) us = shl_word s.y s.a_signed (operand us 0) (operand us 1)
form_word (Right s) us = shr_word s.y s.a_signed (operand us 0) (operand us 1)
form_word (Signed s) us = sshr_word s.y s.a_signed (operand us 0) (operand us 1)
form_word (Offset s) us = shift_word s.y s.a_signed s.b_signed (operand us 0) (operand us 1)
form_word (Indexed s) us = shiftx_word s.y s.b_signed (operand us 0) (operand us 1)

-- 1 to 128 bits
pub record IsWidth (n : ℕ) : Type 0 where
  pub some : 1 ≤ n
  pub limit : n ≤ 128

-- widths that go together, beside what their types say
abbrev pub IsSound : SelectForm → Type 0
IsSound (Mux n) = IsWidth n
IsSound (Pmux c) = Unit {0}
IsSound (Bmux b) = Unit {0}
IsSound (Demux b) = Unit {0}
IsSound (Lut t) = Unit {0}
IsSound (Left s) = Unit {0}
IsSound (Right s) = Unit {0}
IsSound (Signed s) = Unit {0}
IsSound (Offset s) = Unit {0}
IsSound (Indexed s) = s.a_signed ≡ false

-- a form says all that a cell's output and its taint depend on beside the words of its operands
pub record StandsFor (f : SelectForm) (c : Cell) : Type 0 where
  pub has : HasForm c
  pub sound : IsSound f
  pub operands : operand_widths c ≡ form_operands f
  pub outputs : output_widths c ≡ form_output f ∷ []
  pub words : (us : List Word) → AreOperands c us → meaning c us ≡ form_word f us ∷ []
  pub taints : (vs ts : List Word) → AreOperands c vs → AreOperands c ts → taint_words c vs ts ≡ exact_word (form_output f) (form_word f) vs ts ∷ []
