-- The new cells for a cell, and what they may read, where a table says which bit holds the taint of a net number.
use Rattle.std.specs.Prelude.{ℕ, ◌≡◌, true, List, [], ◌++◌, map, get_or, Option, Some, None, option_to_list}
use Rattle.std.specs.List.{flat_map, list_all}
use Rattle.cif_defs.specs.Kinds.{role_of}
use Rattle.cif_defs.specs.Table.{operands_of}
use Rattle.cif_defs.specs.RawModule.{port_bits, operand_bits, output_bits, nets_in, is_net}
use Rattle.cif_defs.specs.Cells.{reset_operand}
use Rattle.cif_defs.specs.Order.{IsCellInOrder}
use Rattle.cif_defs.specs.declared.kinds.Kind.{Kind}
use Rattle.cif_defs.specs.declared.kinds.Role.{Role}
use Rattle.cif_defs.specs.declared.kinds.Role.TheVariants.{Combinational, PlainRegister, ResetRegister, MemoryBlock, CarriedOver}
use Rattle.cif_defs.specs.declared.raw_module.RawBit.{RawBit}
use Rattle.cif_defs.specs.declared.raw_module.RawBit.TheVariants.{Net, Zero, One, X, Z}
use Rattle.cif_defs.specs.declared.raw_module.RawCell.{RawCell}
use Rattle.cif_checks.specs.Checks.{cell_fault}
use Rattle.cif_augment.specs.Additions.{Block}
use Rattle.cif_emit.specs.Emitted.{drives}

-- ---- new cells

-- those that store for a cell: its taint, its flag, and its word where it has an asynchronous reset; and further cells,
-- which compute the taint that it shows, and then what is stored next
pub record Making : Type 0 where
  pub taint : Option RawCell
  pub flag : Option RawCell
  pub copy : Option RawCell
  pub showing : List RawCell
  pub storing : List RawCell

abbrev pub block_of : Making → Block
block_of m = record { taint = m.taint; flag = m.flag; copy = m.copy; further = m.showing ++ m.storing }

abbrev pub state_cells : Making → List RawCell
state_cells m = option_to_list m.taint ++ option_to_list m.flag ++ option_to_list m.copy

-- a new cell that stores: it passes the checks of a cell, and drives a net at each output place
pub record IsStateCell (d : RawCell) : Type 0 where
  pub passes : cell_fault d ≡ None
  pub in_order : IsCellInOrder d
  pub nets : list_all is_net (output_bits d) ≡ true

-- what such a cell shows, where there is one
abbrev pub shown_by : Option RawCell → List RawBit
shown_by None = []
shown_by (Some d) = output_bits d

-- ---- bits that hold taints

-- the bit that holds the taint of a bit: a constant has none
abbrev pub taint_bit : (ℕ → RawBit) → RawBit → RawBit
taint_bit shadow (Net x) = shadow x
taint_bit shadow Zero = Zero
taint_bit shadow One = Zero
taint_bit shadow X = Zero
taint_bit shadow Z = Zero

abbrev pub taint_bits : (ℕ → RawBit) → List RawBit → List RawBit
taint_bits shadow bits = map (taint_bit shadow) bits

-- ---- what new cells read

-- the bits of operand p of a cell of kind k
abbrev pub operand_row : RawCell → Kind → ℕ → List RawBit
operand_row c k p = get_or (map (port_bits c) (operands_of k)) p []

-- the operand bits on which what a cell shows depends in the same cycle
abbrev pub passing_bits : RawCell → Kind → List RawBit
passing_bits c k = by_role (role_of k) where
  by_role : Role → List RawBit
  by_role Combinational = operand_bits c
  by_role ResetRegister = operand_row c k (reset_operand k)
  by_role MemoryBlock = operand_row c k 0
  by_role PlainRegister = []
  by_role CarriedOver = []

abbrev pub with_taints : (ℕ → RawBit) → List RawBit → List RawBit
with_taints shadow bits = bits ++ taint_bits shadow bits

-- the net numbers that cells may read that compute the taint that is shown
abbrev pub known_for_showing : (ℕ → RawBit) → RawCell → Kind → Making → List ℕ
known_for_showing shadow c k m = nets_in (with_taints shadow (passing_bits c k) ++ flat_map output_bits (state_cells m))

-- the net numbers that cells may read that compute what is stored next
abbrev pub known_for_storing : (ℕ → RawBit) → RawCell → Making → List ℕ
known_for_storing shadow c m = nets_in (with_taints shadow (operand_bits c) ++ output_bits c ++ flat_map output_bits (state_cells m)) ++ flat_map drives m.showing
