-- Cells that were appended, and bits that stand for a word under every assignment that meets them.
use Rattle.std.specs.Prelude.{ℕ, ◌+◌, ◌<◌, ◌≤◌, ◌^◌, ◌≡◌, Bool, true, false, List, [], ◌∷◌, ◌++◌, map, length, Some, None, option_map}
use Rattle.std.specs.List.{AllByRecursion, flat_map, list_all, range_with_len}
use Rattle.cif_defs.specs.Words.{Word}
use Rattle.cif_defs.specs.Kinds.{role_of}
use Rattle.cif_defs.specs.Table.{kind_of}
use Rattle.cif_defs.specs.Order.{IsCellInOrder, cell_names}
use Rattle.cif_defs.specs.RawModule.{operand_bits, output_bits, nets_in, is_net}
use Rattle.cif_defs.specs.declared.kinds.Param.{Param}
use Rattle.cif_defs.specs.declared.kinds.CellPort.{CellPort}
use Rattle.cif_defs.specs.declared.kinds.Role.TheVariants.{Combinational}
use Rattle.cif_defs.specs.declared.raw_module.RawBit.{RawBit}
use Rattle.cif_defs.specs.declared.raw_module.RawBit.TheVariants.{Net, Zero, One, X, Z}
use Rattle.cif_defs.specs.declared.raw_module.RawParam.{RawParam}
use Rattle.cif_defs.specs.declared.raw_module.Connection.{Connection}
use Rattle.cif_defs.specs.declared.raw_module.RawCell.{RawCell}
use Rattle.cif_checks.specs.Checks.{cell_fault, has_number}
use Rattle.cif_term.specs.Formulas.{Formula, value_of, plain_width, cost_of}
use Rattle.cif_raw_runs.specs.Assigned.{raw_word, raw_words, AreMet}
use Rattle.cif_emit.specs.CellForms.{number_param, connection}
use Rattle.cif_emit.specs.Makers.{Maker, RiseBetween, name_in}
use Rattle.cif_emit.specs.declared.terms.OperandPair.{OperandPair}

-- ---- what a cell reads and drives

-- the net numbers that a cell drives
abbrev pub drives : RawCell → List ℕ
drives c = nets_in (output_bits c)

-- a constant, or one of the known numbers
abbrev pub is_known : List ℕ → RawBit → Bool
is_known known (Net x) = has_number x known
is_known known Zero = true
is_known known One = true
is_known known X = false
is_known known Z = false

abbrev pub are_known : List ℕ → List RawBit → Bool
are_known known bits = list_all (is_known known) bits

-- each cell reads constants, known numbers, and numbers that cells before it drive
abbrev pub ReadInOrder : List ℕ → List RawCell → Type 0
ReadInOrder known [] = Unit {0}
ReadInOrder known (c ∷ cells) = (are_known known (operand_bits c) ≡ true) × ReadInOrder (known ++ drives c) cells

-- a number below 2 ^ 32 under the name of a parameter, and bits at a port
abbrev pub IsNumber : RawParam → Type 0
IsNumber q = (p : Param) × ((x : ℕ) × ((x < 2 ^ 32) × (q ≡ number_param p x)))

abbrev pub IsAtPort : Connection → Type 0
IsAtPort x = (port : CellPort) × (x ≡ connection port x.bits)

-- a cell that passes the checks of a cell, computes, has no attributes and only numbers as parameters, is connected at
-- ports alone, and drives a net at each output place
pub record IsPlainCell (c : RawCell) : Type 0 where
  pub passes : cell_fault c ≡ None
  pub computes : option_map role_of (kind_of c.kind) ≡ Some Combinational
  pub in_order : IsCellInOrder c
  pub shown : c.hide ≡ false
  pub bare : c.attributes ≡ []
  pub numbers : AllByRecursion IsNumber c.parameters
  pub ports : AllByRecursion IsAtPort c.connections
  pub nets : list_all is_net (output_bits c) ≡ true
  pub few : length (drives c) ≤ 4096

-- ---- what was appended

-- cells that were made with what a maker handed out before it came to stand as after
pub record AreMade (before after : Maker) (cells : List RawCell) : Type 0 where
  pub names : cell_names cells ≡ map (name_in before) (range_with_len before.made (length cells))
  pub made : after.made ≡ before.made + length cells
  pub numbers : RiseBetween before.used before.next after.next (flat_map drives cells)
  pub handed : after.handed ≡ before.handed + length (flat_map drives cells)
  pub plain : AllByRecursion IsPlainCell cells
  pub used : after.used ≡ before.used
  pub cell : after.cell ≡ before.cell

-- cells that were appended, at most `cost` of them, and `width` bits made of them and of `inputs` alone: under every
-- assignment that meets the cells, the word of the bits is one that is meant
pub record IsEmitted (before after : Maker) (old new : List RawCell) (inputs : List RawBit) (Meant : (ℕ → Bool) → Word → Type 0) (cost width : ℕ) (bits : List RawBit) : Type 0 where
  pub cells : List RawCell
  pub appended : new ≡ old ++ cells
  pub made : AreMade before after cells
  pub reads : (known : List ℕ) → are_known known inputs ≡ true → ReadInOrder known cells
  pub shows : (known : List ℕ) → are_known known inputs ≡ true → are_known (known ++ flat_map drives cells) bits ≡ true
  pub means : (v : ℕ → Bool) → AreMet v cells → Meant v (raw_word v bits)
  pub cost_limit : length cells ≤ cost
  pub as_wide : length bits ≡ width

-- ---- terms

-- the bits of the values, and of the taints, of operands
abbrev pub value_bits : List OperandPair → List (List RawBit)
value_bits ports = map (λ (o : OperandPair). o.values) ports

abbrev pub taint_bits : List OperandPair → List (List RawBit)
taint_bits ports = map (λ (o : OperandPair). o.taints) ports

abbrev pub all_bits : List (List RawBit) → List RawBit
all_bits words = flat_map (λ bits. bits) words

abbrev pub widths : List (List RawBit) → List ℕ
widths words = map length words

-- the value of a formula, where the words of operands and of what enclosing Lets name are read under an assignment
abbrev pub IsValue : Formula → List OperandPair → List (List RawBit) → (ℕ → Bool) → Word → Type 0
IsValue f ports named v w = w ≡ value_of f (raw_words v (value_bits ports)) (raw_words v (taint_bits ports)) (raw_words v named)

-- a formula emitted as cells, inside what encloses it
abbrev pub IsEmittedIn : Maker → Maker → List RawCell → List RawCell → Formula → List OperandPair → List (List RawBit) → List RawBit → Type 0
IsEmittedIn before after old new f ports named bits =
    IsEmitted before after old new (all_bits (value_bits ports) ++ all_bits (taint_bits ports) ++ all_bits named) (IsValue f ports named)
    (cost_of f (widths (value_bits ports)) (widths named)) (plain_width f (widths (value_bits ports)) (widths named)) bits
