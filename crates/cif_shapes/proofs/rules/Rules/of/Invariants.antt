use Rattle.std.proofs.Common.{◌≡◌, List, map, take}
use Rattle.cif_shapes.specs.declared.shape.Shape.{Shape}
use Rattle.cif_shapes.specs.CellRules.{KeepsShapes, rule_of, shape_at}
use Rattle.cif_shapes.proofs.rules.Rules.of.Given as goal

-- whatever rules are added, the places are those of the cells so far
abbrev pub invariant-loop-i : goal.invariant-loop-i
invariant-loop-i l = (longer : List Shape) → KeepsShapes l.making.rules.items longer → map (shape_at longer) l.places.items ≡ map rule_of (take l.i l.cells)
