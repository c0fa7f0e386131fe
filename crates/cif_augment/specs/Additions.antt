-- What stands in an augmented module beside the original one: ports and cells of taint.
use Rattle.std.specs.Prelude.{ℕ, ◌<◌, ◌≤◌, ◌≡◌, ◌≢◌, true, false, List, [], ◌∷◌, ◌++◌, length, get_or, take, codes, Contains, Option, Some, option_to_list, option_map, IsNone, IsSomeAnd, MatchBool, if◌then◌else◌}
use Rattle.std.specs.List.{flat_map}
use Rattle.cif_defs.specs.Words.{bit}
use Rattle.cif_defs.specs.WordText.{text_of}
use Rattle.cif_defs.specs.Kinds.{is_register, is_memory}
use Rattle.cif_defs.specs.Table.{kind_of, type_text, param_text}
use Rattle.cif_defs.specs.RawModule.{value_named, number_given, digits_given, operand_bits, output_bits, clock_bits, nets_in, net_numbers}
use Rattle.cif_defs.specs.Accepted.{cell_of, initial_of, is_input}
use Rattle.cif_defs.specs.Weights.{weight}
use Rattle.cif_defs.specs.declared.kinds.Kind.{Kind}
use Rattle.cif_defs.specs.declared.kinds.Kind.TheVariants.{Dff, Sdff, Sdffe, Adff, Adffe, Mem}
use Rattle.cif_defs.specs.declared.kinds.Param.{Param}
use Rattle.cif_defs.specs.declared.kinds.Param.TheVariants.{Width, ClkPolarity, EnPolarity, SrstPolarity, SrstValue, ArstPolarity, ArstValue, Init, WrClkPolarity}
use Rattle.cif_defs.specs.declared.raw_module.ParamValue.{ParamValue}
use Rattle.cif_defs.specs.declared.raw_module.ParamValue.TheVariants.{Text}
use Rattle.cif_defs.specs.declared.raw_module.Connection.{Connection}
use Rattle.cif_defs.specs.declared.raw_module.RawPort.{RawPort}
use Rattle.cif_defs.specs.declared.raw_module.RawCell.{RawCell}
use Rattle.cif_defs.specs.declared.raw_module.RawName.{RawName}
use Rattle.cif_defs.specs.declared.raw_module.Raw.{Raw}
use Rattle.cif_checks.specs.Checks.{digit_number}
use Rattle.cif_augment.specs.Names.{taint_name, flag_name, stored_name, numbered_name, has_role, is_combinational, is_reset_register, has_flag}

-- ---- ports

-- q shows the taint of port p
pub record IsTaintPort (p q : RawPort) : Type 0 where
  pub name : q.name ≡ taint_name p.name
  pub direction : q.direction ≡ p.direction
  pub width : length q.bits ≡ length p.bits

-- the netname of such a port
abbrev pub net_of_port : RawPort → RawName
net_of_port q = record { name = q.name; hide = false; bits = q.bits; attributes = [] }

-- ---- cells

-- what a cell gives for a parameter
abbrev pub given : RawCell → Param → Option ParamValue
given c p = value_named (param_text p) c.parameters

-- a new cell of this name and of this type: it isn't hidden and has no attributes
pub record IsNewCell (called type : List ℕ) (d : RawCell) : Type 0 where
  pub name : d.name ≡ called
  pub kind : d.kind ≡ type
  pub shown : d.hide ≡ false
  pub bare : d.attributes ≡ []

-- t stores the taint of register c: a $dff as wide, on the same edge of the clock
pub record IsTaintRegister (c t : RawCell) : Type 0 where
  pub is_new : IsNewCell (taint_name c.name) (type_text Dff) t
  pub width : given t Width ≡ given c Width
  pub clock : clock_bits t ≡ clock_bits c
  pub edge : given t ClkPolarity ≡ given c ClkPolarity

-- the kind without asynchronous reset of a kind with it: $sdff for $adff, and $sdffe for $adffe
abbrev pub copy_kind : Option Kind → List ℕ
copy_kind (Some Adff) = type_text Sdff
copy_kind (Some Adffe) = type_text Sdffe
copy_kind _ = []

-- v stores what register c stores, but doesn't hide it while the reset is active: it has D, EN and clock of c, and the
-- reset of c as its synchronous one
pub record IsCopy (c v : RawCell) : Type 0 where
  pub is_new : IsNewCell (stored_name c.name) (copy_kind (kind_of c.kind)) v
  pub width : given v Width ≡ given c Width
  pub clock : clock_bits v ≡ clock_bits c
  pub edge : given v ClkPolarity ≡ given c ClkPolarity
  -- D, EN where the kind has it, and then the reset
  pub operands : operand_bits v ≡ operand_bits c
  pub enable : kind_of c.kind ≡ Some Adffe → given v EnPolarity ≡ given c EnPolarity
  pub reset : given v SrstPolarity ≡ given c ArstPolarity
  pub reset_value : given v SrstValue ≡ given c ArstValue

-- t stores the taint of memory c: a memory with its parameters, which starts with zeros
pub record IsTaintMemory (c t : RawCell) : Type 0 where
  pub is_new : IsNewCell (taint_name c.name) (type_text Mem) t
  pub parameters : (name : List ℕ) → name ≢ param_text Init → name ≢ codes "MEMID" → value_named name t.parameters ≡ value_named name c.parameters
  pub initial : given t Init ≡ Some (Text (codes "0"))
  pub identity : value_named (codes "MEMID") t.parameters ≡ Some (Text (taint_name c.name))
  pub clock : clock_bits t ≡ clock_bits c

-- f stores the flag of memory c: a $dff of one bit, on the edge of its write ports
pub record IsFlag (c f : RawCell) : Type 0 where
  pub is_new : IsNewCell (flag_name c.name) (type_text Dff) f
  pub width : number_given f Width ≡ Some 1
  pub clock : clock_bits f ≡ take 1 (clock_bits c)
  pub edge : number_given f ClkPolarity ≡ Some (digit_number (bit (digits_given c WrClkPolarity) 0))

-- d is further cell number i of cell c: it stores nothing
pub record IsFurtherCell (c : RawCell) (i : ℕ) (d : RawCell) : Type 0 where
  pub is_new : IsNewCell (numbered_name c.name i) d.kind d
  pub computes : has_role is_combinational d ≡ true

-- the new cells for a cell
pub record Block : Type 0 where
  pub taint : Option RawCell
  pub flag : Option RawCell
  pub copy : Option RawCell
  pub further : List RawCell

abbrev pub block_cells : Block → List RawCell
block_cells b = option_to_list b.taint ++ option_to_list b.flag ++ option_to_list b.copy ++ b.further

-- b are the new cells for cell c of a module, at most as many as it weighs
pub record IsBlock (n : Raw) (c : RawCell) (b : Block) : Type 0 where
  pub taint : MatchBool (has_role is_register c) (IsSomeAnd b.taint (IsTaintRegister c))
      (MatchBool (has_role is_memory c) (IsSomeAnd b.taint (IsTaintMemory c)) (IsNone b.taint))
  pub flag : MatchBool (has_flag c) (IsSomeAnd b.flag (IsFlag c)) (IsNone b.flag)
  pub copy : MatchBool (has_role is_reset_register c) (IsSomeAnd b.copy (IsCopy c)) (IsNone b.copy)
  -- the further cells are numbered from 0 on
  pub further : (i : ℕ) (d : RawCell) → i < length b.further → IsFurtherCell c i (get_or b.further i d)
  pub count : length (block_cells b) ≤ weight (cell_of (net_numbers n) c)

-- ---- nets

-- the netname of what register c stores, with the bits that it starts with
abbrev pub net_of_copy : Raw → RawCell → RawCell → RawName
net_of_copy n c v = record {
  name = v.name;
  hide = false;
  bits = output_bits v;
  attributes = record { name = codes "init"; value = Text (text_of (initial_of (net_numbers n) n.names c)) } ∷ [];
}

abbrev pub nets_of_block : Raw → RawCell × Block → List RawName
nets_of_block n (c, b) = option_to_list (option_map (net_of_copy n c) b.copy)

-- the net numbers of all ports, connections and netnames
unfoldable pub standing_numbers : Raw → List ℕ
standing_numbers raw =
    flat_map (λ (p : RawPort). nets_in p.bits) raw.ports
    ++ flat_map (λ (c : RawCell). flat_map (λ (x : Connection). nets_in x.bits) c.connections) raw.cells
    ++ flat_map (λ (n : RawName). nets_in n.bits) raw.names

-- a net number from 2 on that stands nowhere in a module
pub record IsNewNet (n : Raw) (x : ℕ) : Type 0 where
  pub from_2 : 2 ≤ x
  pub nowhere : ¬ Contains (standing_numbers n) x

abbrev pub numbers_of_input : RawPort → List ℕ
numbers_of_input q = if is_input q then nets_in q.bits else []

-- the net numbers that new ports and new cells drive
unfoldable pub new_numbers : List RawPort → List Block → List ℕ
new_numbers ports blocks = flat_map numbers_of_input ports ++ flat_map (λ (b : Block). flat_map (λ (d : RawCell). nets_in (output_bits d)) (block_cells b)) blocks
