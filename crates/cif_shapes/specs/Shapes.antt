-- The shape of a combinational cell: all that its outputs and their taints depend on beside the words of its operands.
use Rattle.std.specs.Prelude.{ℕ, ◌^◌, ◌≡◌, List, [], ◌∷◌, map}
use Rattle.cif_defs.specs.Words.{Word, bit, word}
use Rattle.cif_defs.specs.Kinds.{role_of}
use Rattle.cif_defs.specs.Cells.{Cell, digits_of, number_of, width}
use Rattle.cif_defs.specs.Fitted.{IsFitted}
use Rattle.cif_defs.specs.declared.kinds.Role.TheVariants.{Combinational}
use Rattle.cif_defs.specs.declared.kinds.Kind.{Kind}
use Rattle.cif_defs.specs.declared.kinds.Kind.TheVariants.{Lut as LutKind}
use Rattle.cif_defs.specs.declared.kinds.Param.{Param}
use Rattle.cif_defs.specs.declared.kinds.Param.TheVariants.{ASigned, BSigned, AWidth, BWidth, YWidth, Width, SWidth, Offset}
use Rattle.cif_defs.specs.declared.kinds.Param.TheVariants.{Lut as LutTable}
use Rattle.cif_term.specs.Formulas.{Formula}
use Rattle.cif_term.specs.CellTaints.{AreTaintsOf}
use Rattle.cif_shapes.specs.declared.shape.Shape.{Shape}

-- the parameters of combinational kinds that are numbers
abbrev pub shape_params : List Param
shape_params = ASigned ∷ BSigned ∷ AWidth ∷ BWidth ∷ YWidth ∷ Width ∷ SWidth ∷ Offset ∷ []

-- the numbers that a cell gives for them
abbrev pub numbers_of : Cell → List ℕ
numbers_of c = map (number_of c) shape_params

-- how many digits of LUT a cell reads: one for each word of its operand
abbrev pub table_size : Kind → Cell → ℕ
table_size LutKind c = 2 ^ width c
table_size _ c = 0

-- those digits
abbrev pub table_of : Cell → Word
table_of c = word (table_size c.kind c) (λ i. bit (digits_of c LutTable) i)

abbrev pub shape_of : Cell → Shape
shape_of c = record { kind = c.kind; numbers = numbers_of c; table = table_of c }

-- formulas of the taint of every fitted combinational cell of a shape
pub record AreTaintsOfShape (s : Shape) (fs : List Formula) : Type 0 where
  pub of_each : (c : Cell) → role_of c.kind ≡ Combinational → IsFitted c → s ≡ shape_of c → AreTaintsOf c fs
