-- Cells made ready, and the words and taints that they give over numbers.
use Rattle.std.specs.Prelude.{◌≡◌, Bool, false, [], if◌then◌else◌}
use Rattle.cif_defs.specs.Cells.{Cell, a_signed, both_signed, number_of, y_width}
use Rattle.cif_defs.specs.Fitted.{IsFitted}
use Rattle.cif_defs.specs.Meanings.{add_word, div_word, divfloor_word, eq_word, ge_word, gt_word, le_word, lt_word, mod_word, modfloor_word, mul_word, ne_word, sub_word}
use Rattle.cif_defs.specs.Words.{Word}
use Rattle.cif_defs.specs.declared.kinds.Kind.{Kind}
use Rattle.cif_defs.specs.declared.kinds.Kind.TheVariants.{Add, Sub, Mul, Div, Mod, DivFloor, ModFloor, Eq, Ne, Eqx, Nex, Lt, Le, Ge, Gt}
use Rattle.cif_defs.specs.declared.kinds.Param.TheVariants.{AWidth, BWidth}
use Rattle.rule_arith.specs.EqualFormulas.{equal_taint}
use Rattle.rule_arith.specs.OrderFormulas.{greater_taint, less_taint}
use Rattle.rule_arith.specs.SumFormulas.{add_taint, sub_taint}
use Rattle.word_sums.specs.declared.form.SumForm.{SumForm}
use Rattle.word_sums.specs.declared.shape.Pair.{Pair}
use Rattle.word_sums.specs.declared.shape.Shape.{Shape}
use Rattle.word_sums.specs.CoarseWords.{division_taint_of, product_taint_of, quotient_taint_of}
use Rattle.word_sums.specs.Covered.{is_neg}
use Rattle.word_sums.specs.Operands.{row_of, taint_of}

-- ---- by kind

-- the word of Y
unfoldable pub value_row : Kind → Shape → Pair → Word
value_row Add s x = row_of add_word s x
value_row Sub s x = row_of sub_word s x
value_row Mul s x = row_of mul_word s x
value_row Div s x = row_of div_word s x
value_row Mod s x = row_of mod_word s x
value_row DivFloor s x = row_of divfloor_word s x
value_row ModFloor s x = row_of modfloor_word s x
value_row Eq s x = row_of eq_word s x
value_row Eqx s x = row_of eq_word s x
value_row Ne s x = row_of ne_word s x
value_row Nex s x = row_of ne_word s x
value_row Lt s x = row_of lt_word s x
value_row Le s x = row_of le_word s x
value_row Ge s x = row_of ge_word s x
value_row Gt s x = row_of gt_word s x
value_row _ s x = []

-- the taint of $div
abbrev pub div_taint_of : Shape → Pair → Pair → Word
div_taint_of s v t = if s.signed then division_taint_of s v t else quotient_taint_of s v t

-- the taint of Y
unfoldable pub taint_row : Kind → Shape → Pair → Pair → Word
taint_row Add s v t = taint_of add_taint s v t
taint_row Sub s v t = taint_of sub_taint s v t
taint_row Mul s v t = product_taint_of s v t
taint_row Div s v t = div_taint_of s v t
taint_row Mod s v t = division_taint_of s v t
taint_row DivFloor s v t = division_taint_of s v t
taint_row ModFloor s v t = division_taint_of s v t
taint_row Eq s v t = taint_of equal_taint s v t
taint_row Eqx s v t = taint_of equal_taint s v t
taint_row Ne s v t = taint_of equal_taint s v t
taint_row Nex s v t = taint_of equal_taint s v t
taint_row Lt s v t = taint_of less_taint s v t
taint_row Le s v t = taint_of greater_taint s v t
taint_row Ge s v t = taint_of less_taint s v t
taint_row Gt s v t = taint_of greater_taint s v t
taint_row _ s v t = []

-- ---- a cell and its form

-- whether its operands are signed
abbrev pub signed_cell : Cell → Bool
signed_cell c = if is_neg c.kind then a_signed c else both_signed c

pub record IsFormOf (f : SumForm) (c : Cell) : Type 0 where
  pub kind : f.kind ≡ c.kind
  pub a : f.shape.a ≡ number_of c AWidth
  pub b : is_neg c.kind ≡ false → f.shape.b ≡ number_of c BWidth
  pub y : f.shape.y ≡ y_width c
  pub signed : f.shape.signed ≡ signed_cell c
  pub fitted : IsFitted c
