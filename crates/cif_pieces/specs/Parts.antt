-- Which cells and net bits a part of a netlist owns, which cells it evaluates, and of which registers and memories it needs what
-- they store.
use Rattle.std.specs.Prelude.{ℕ, ◌*◌, ◌/◌, ◌<◌, ◌≡◌, ◌⊎◌, ◌||◌, Bool, true, List, ◌∷◌, length, Option, Some, None}
use Rattle.cif_defs.specs.Kinds.{is_memory, is_register}
use Rattle.cif_defs.specs.Loop.{DrivesAlong, is_passing}
use Rattle.cif_defs.specs.Netlist.{Netlist, cell_at, driver_of, operand_at, output_at, role_at}
use Rattle.cif_defs.specs.declared.kinds.Role.{Role}
use Rattle.cif_defs.specs.declared.kinds.Role.TheVariants.{PlainRegister}
use Rattle.cif_defs.specs.declared.nets.Driver.{Driver}
use Rattle.cif_defs.specs.declared.nets.Driver.TheVariants.{Input, Output, Register, Read, Clock}
use Rattle.cif_defs.specs.declared.nets.Src.TheVariants.{Bit}

-- ---- what a part owns

-- the part, of so many, that owns cell c of so many cells; cells stand in byte order of name
abbrev pub owner : ℕ → ℕ → ℕ → ℕ
owner cells parts c = c * parts / cells

-- a part owns a cell: its output bits, its stored bits and its flag
abbrev pub OwnsCell : Netlist → ℕ → ℕ → ℕ → Type 0
OwnsCell n parts part c = (c < length n.cells) × (owner (length n.cells) parts c ≡ part)

-- the part that owns a bit with this driver: that of its cell, and part 0 for an input; no part owns the clock
abbrev pub driver_owner : ℕ → ℕ → Driver → Option ℕ
driver_owner cells parts (Input p i) = Some 0
driver_owner cells parts (Output c p i) = Some (owner cells parts c)
driver_owner cells parts (Register c i) = Some (owner cells parts c)
driver_owner cells parts (Read c r i) = Some (owner cells parts c)
driver_owner cells parts Clock = None

-- a part owns a net bit
abbrev pub OwnsNet : Netlist → ℕ → ℕ → ℕ → Type 0
OwnsNet n parts part b = driver_owner (length n.cells) parts (driver_of n b) ≡ Some part

-- ---- what a part evaluates

-- c is passing, and one of its output bits is an operand bit of d, whether that bit counts or not
pub record DrivesOperand (n : Netlist) (c d : ℕ) : Type 0 where
  pub passing : is_passing (role_at n c) ≡ true
  pub output : ℕ
  pub from : ℕ
  pub operand : ℕ
  pub to : ℕ
  pub net : ℕ
  pub is_output : output_at (cell_at n c) output from ≡ Some net
  pub is_operand : operand_at (cell_at n d) operand to ≡ Bit net

-- c is d, or drives a cell that drives another, and so on, the last of which drives d
abbrev pub LeadsTo : Netlist → ℕ → ℕ → Type 0
LeadsTo n c d = (c ≡ d) ⊎ ((between : List ℕ) × DrivesAlong n d (c ∷ between))

-- a cell from which a path leads to an operand of a cell of the part
pub record Feeds (n : Netlist) (parts part c : ℕ) : Type 0 where
  pub last : ℕ
  pub fed : ℕ
  pub leads : LeadsTo n c last
  pub drives : DrivesOperand n last fed
  pub owns : OwnsCell n parts part fed

-- a part evaluates the cells that it owns, and those from which a path leads to an operand of one of them
abbrev pub Evaluates : Netlist → ℕ → ℕ → ℕ → Type 0
Evaluates n parts part c = OwnsCell n parts part c ⊎ Feeds n parts part c

-- and of them in their turn those that are passing
abbrev pub EvaluatesInTurn : Netlist → ℕ → ℕ → ℕ → Type 0
EvaluatesInTurn n parts part c = Evaluates n parts part c × (is_passing (role_at n c) ≡ true)

-- ---- of what a part needs the stored words

-- c is a register without asynchronous reset, and one of its output bits is an operand bit of d, whether that bit counts or not
pub record ShowsOperand (n : Netlist) (c d : ℕ) : Type 0 where
  pub plain : role_at n c ≡ PlainRegister
  pub output : ℕ
  pub from : ℕ
  pub operand : ℕ
  pub to : ℕ
  pub net : ℕ
  pub is_output : output_at (cell_at n c) output from ≡ Some net
  pub is_operand : operand_at (cell_at n d) operand to ≡ Bit net

-- a register that a cell reads which the part evaluates
pub record IsRead (n : Netlist) (parts part c : ℕ) : Type 0 where
  pub reader : ℕ
  pub shows : ShowsOperand n c reader
  pub evaluates : Evaluates n parts part reader

-- a part uses what the cells show that it evaluates, and what the registers show that these read
abbrev pub Uses : Netlist → ℕ → ℕ → ℕ → Type 0
Uses n parts part c = Evaluates n parts part c ⊎ IsRead n parts part c

-- registers and memories store something
abbrev pub stores : Role → Bool
stores r = is_register r || is_memory r

-- a part needs what those of the cells store that it uses
abbrev pub Needs : Netlist → ℕ → ℕ → ℕ → Type 0
Needs n parts part c = Uses n parts part c × (stores (role_at n c) ≡ true)
