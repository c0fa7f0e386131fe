-- The cell that the fields of a `Cell` stand for.
use Rattle.std.specs.Prelude.{ℕ, List, map}
use Rattle.cif_defs.specs.Words.{Word}
use Rattle.cif_defs.specs.Cells.{Cell as CellData}
use Rattle.cif_defs.specs.declared.kinds.Param.{Param}
use Rattle.cif_kinds.specs.declared.cell.Given.{Given}
use Rattle.cif_kinds.specs.declared.cell.Digits.{Digits}
use Rattle.cif_kinds.specs.declared.cell.Cell.TheInside.{Inside}

abbrev pub numbers_seen : List Given → List (Param × ℕ)
numbers_seen gs = map (λ (g : Given). (g.param, g.number)) gs

abbrev pub digits_seen : List Digits → List (Param × Word)
digits_seen ds = map (λ (d : Digits). (d.param, d.bits)) ds

abbrev pub cell_seen : Inside → CellData
cell_seen c = record {
  name = c.name;
  kind = c.kind;
  numbers = numbers_seen c.numbers.items;
  digits = digits_seen c.digits.items;
  operands = c.operands.items;
  outputs = c.outputs.items;
}
