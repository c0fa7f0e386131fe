-- Cells whose ports have the widths that the table of kinds says, within its limits. Every cell of an accepted netlist is such.
use Rattle.std.specs.Prelude.{ℕ, ◌+◌, ◌≤◌, ◌≡◌, List, [], ◌∷◌, map, length, ◌≢◌}
use Rattle.cif_defs.specs.Cells.{Cell, number_of}
use Rattle.cif_defs.specs.Table.{operands_of, outputs_of, width_by, width_limit}
use Rattle.cif_defs.specs.declared.kinds.Kind.TheVariants.{Mem, Slice}
use Rattle.cif_defs.specs.declared.kinds.Param.TheVariants.{AWidth, YWidth, Offset}
use Rattle.cif_defs.specs.declared.kinds.PortRow.{PortRow}

-- the width of a port, from the parameters of a cell
abbrev pub row_width : Cell → PortRow → ℕ
row_width c r = width_by (number_of c) r.width

-- how many bits each operand of a cell has
abbrev pub operand_widths : Cell → List ℕ
operand_widths c = map length c.operands

-- a port has at least one bit, and no more than its kind allows
pub record IsWithin (c : Cell) (r : PortRow) : Type 0 where
  pub some : 1 ≤ row_width c r
  pub limit : row_width c r ≤ width_limit c.kind r.port

abbrev pub AllWithin : Cell → List PortRow → Type 0
AllWithin c [] = Unit {0}
AllWithin c (r ∷ rows) = IsWithin c r × AllWithin c rows

pub record IsFitted (c : Cell) : Type 0 where
  pub operands : operand_widths c ≡ map (row_width c) (operands_of c.kind)
  pub outputs : map length c.outputs ≡ map (row_width c) (outputs_of c.kind)
  -- a memory may have no ports, and then no bits there
  pub operands_within : c.kind ≢ Mem → AllWithin c (operands_of c.kind)
  pub outputs_within : c.kind ≢ Mem → AllWithin c (outputs_of c.kind)
  -- $slice lies inside its operand
  pub slice : c.kind ≡ Slice → number_of c Offset + number_of c YWidth ≤ number_of c AWidth
