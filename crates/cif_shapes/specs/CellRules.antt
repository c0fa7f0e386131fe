-- The rules of a list of cells.
use Rattle.std.specs.Prelude.{ℕ, ◌≡◌, List, Option, Some, None, slice_get}
use Rattle.cif_defs.specs.Kinds.{role_of}
use Rattle.cif_defs.specs.Cells.{Cell}
use Rattle.cif_defs.specs.Fitted.{IsFitted}
use Rattle.cif_defs.specs.declared.kinds.Role.{Role}
use Rattle.cif_defs.specs.declared.kinds.Role.TheVariants.{Combinational}
use Rattle.cif_shapes.specs.Shapes.{shape_of}
use Rattle.cif_shapes.specs.declared.shape.Shape.{Shape}

abbrev pub rule_by : Role → Cell → Option Shape
rule_by Combinational c = Some (shape_of c)
rule_by _ c = None

-- the shape of the rule of a cell, which a combinational one has
abbrev pub rule_of : Cell → Option Shape
rule_of c = rule_by (role_of c.kind) c

-- a cell that fits the table of kinds as far as it has a rule
abbrev pub FitsItsRule : Cell → Type 0
FitsItsRule c = role_of c.kind ≡ Combinational → IsFitted c

-- the shape at a place, if there is one
abbrev pub shape_at : List Shape → Option ℕ → Option Shape
shape_at shapes None = None
shape_at shapes (Some place) = slice_get shapes place

-- ---- rules in the making

-- each shape stays at its place
pub record KeepsShapes (shapes longer : List Shape) : Type 0 where
  pub each : (place : ℕ) (s : Shape) → slice_get shapes place ≡ Some s → slice_get longer place ≡ Some s

-- the shape at this place is s, whatever shapes are added
pub record StandsFor (shapes : List Shape) (place : Option ℕ) (s : Option Shape) : Type 0 where
  pub later : (longer : List Shape) → KeepsShapes shapes longer → shape_at longer place ≡ s
