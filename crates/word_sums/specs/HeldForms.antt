-- Numbers of the widths of a cell's operands.
use Rattle.std.specs.Prelude.{◌^◌, ◌<◌}
use Rattle.word_numbers.specs.declared.words.Words.{Words}
use Rattle.word_sums.specs.declared.form.SumForm.{SumForm}

pub record IsHeldBy (f : SumForm) (w : Words) : Type 0 where
  pub a : w.a < 2 ^ f.shape.a
  pub b : w.b < 2 ^ f.shape.b
