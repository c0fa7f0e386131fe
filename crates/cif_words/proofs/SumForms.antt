-- Numbers of the widths of a cell's operands are numbers of the widths of its form.
use Rattle.std.specs.Prelude.{◌≡◌}
use Rattle.std.proofs.Common.{subst}
use Rattle.cif_defs.specs.Cells.{Cell}
use Rattle.cif_defs.specs.Fitted.{operand_widths}
use Rattle.word_numbers.specs.HeldWords.{AreNarrow}
use Rattle.word_numbers.specs.declared.words.Words.{Words}
use Rattle.word_sums.specs.AluWords.{AreAluWords}
use Rattle.word_sums.specs.HeldForms.{IsHeldBy}
use Rattle.word_sums.specs.declared.alu.AluForm.{AluForm}
use Rattle.word_sums.specs.declared.form.SumForm.{SumForm}
use Rattle.word_sums.proofs.AluLaws.{held_by_alu}
use Rattle.word_sums.proofs.FormLaws.{held_by}
use Rattle.cif_words.specs.Forms.{SaysOf}
use Rattle.cif_words.specs.declared.form.WordForm.{WordForm}
use Rattle.cif_words.specs.declared.form.WordForm.TheVariants.{Number, Adder}

pub held_number : (f : WordForm) (g : SumForm) (c : Cell) (w : Words) → f ≡ Number g → SaysOf f c → AreNarrow (operand_widths c) w → IsHeldBy g w
held_number f g c w e h narrow = held_by g c w (subst (λ (x : WordForm). SaysOf x c) e h) narrow

pub held_adder : (f : WordForm) (g : AluForm) (c : Cell) (w : Words) → f ≡ Adder g → SaysOf f c → AreNarrow (operand_widths c) w → AreAluWords g.shape w
held_adder f g c w e h narrow = held_by_alu g.shape c w (subst (λ (x : WordForm). SaysOf x c) e h) narrow
