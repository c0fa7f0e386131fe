-- A cell $alu and its shape.
use Rattle.std.specs.Prelude.{◌≡◌}
use Rattle.cif_defs.specs.Cells.{Cell, both_signed, number_of, y_width}
use Rattle.cif_defs.specs.Fitted.{IsFitted}
use Rattle.cif_defs.specs.declared.kinds.Kind.TheVariants.{Alu}
use Rattle.cif_defs.specs.declared.kinds.Param.TheVariants.{AWidth, BWidth}
use Rattle.word_sums.specs.declared.shape.Shape.{Shape}

pub record IsAluFormOf (s : Shape) (c : Cell) : Type 0 where
  pub kind : c.kind ≡ Alu
  pub a : s.a ≡ number_of c AWidth
  pub b : s.b ≡ number_of c BWidth
  pub y : s.y ≡ y_width c
  pub signed : s.signed ≡ both_signed c
  pub fitted : IsFitted c
