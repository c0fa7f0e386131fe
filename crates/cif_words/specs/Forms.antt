-- Forms of narrow combinational cells: which cells have one, and which form says all that a cell says.
use Rattle.std.specs.Prelude.{◌≤◌, ◌≡◌, length}
use Rattle.cif_defs.specs.Cells.{Cell}
use Rattle.cif_defs.specs.Kinds.{role_of}
use Rattle.cif_defs.specs.declared.kinds.Role.TheVariants.{Combinational}
use Rattle.word_numbers.specs.NarrowCells.{IsNarrow}
use Rattle.word_logic.specs.LogicForms.{StandsFor as IsLogicForm}
use Rattle.cif_words.specs.declared.form.WordForm.{WordForm}
use Rattle.cif_words.specs.declared.form.WordForm.TheVariants.{Logic, Number, Adder, Choice}
use Rattle.word_choices.specs.ReadForms.{HasShortTable}
use Rattle.word_choices.specs.SelectForms.{StandsFor as IsSelectForm}
use Rattle.word_sums.specs.CellForms.{IsFormOf}
use Rattle.word_sums.specs.AluForms.{IsAluFormOf}

-- the cells that have a form: every combinational cell with at most 128 bits at each port, but no $lut with more than 7 address
-- bits
pub record HasForm (c : Cell) : Type 0 where
  pub role : role_of c.kind ≡ Combinational
  pub narrow : IsNarrow c
  pub table : HasShortTable c

-- the form of its family
abbrev pub SaysOf : WordForm → Cell → Type 0
SaysOf (Logic f) c = IsLogicForm f c
SaysOf (Number f) c = IsFormOf f c
SaysOf (Adder f) c = IsAluFormOf f.shape c
SaysOf (Choice f) c = IsSelectForm f c

pub record StandsFor (f : WordForm) (c : Cell) : Type 0 where
  pub narrow : IsNarrow c
  pub few : length c.operands ≤ 4
  pub few_outputs : length c.outputs ≤ 4
  pub says : SaysOf f c
