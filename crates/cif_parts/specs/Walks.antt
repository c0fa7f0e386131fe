-- The cells that a walk over the operand bits of a cell meets.
use Rattle.std.specs.Prelude.{ℕ, ◌<◌, ◌≡◌, Bool, true, List, get_or, Option, Some, None, if◌then◌else◌}
use Rattle.cif_defs.specs.Cells.{Cell}
use Rattle.cif_defs.specs.Loop.{counts, is_passing}
use Rattle.cif_defs.specs.Netlist.{Netlist, cell_at, driver_of, operand_at, role_at}
use Rattle.cif_defs.specs.Words.{bit}
use Rattle.cif_defs.specs.declared.kinds.Role.{Role}
use Rattle.cif_defs.specs.declared.nets.Driver.{Driver}
use Rattle.cif_defs.specs.declared.nets.Driver.TheVariants.{Input, Output, Register, Read, Clock}
use Rattle.cif_defs.specs.declared.nets.Src.{Src}
use Rattle.cif_defs.specs.declared.nets.Src.TheVariants.{Bit, Zero, One}
use Rattle.cif_shown.specs.Shown.{is_plain}
use Rattle.cif_parts.specs.declared.walk.Walk.{Walk}
use Rattle.cif_parts.specs.declared.walk.Walk.TheVariants.{Operands, Counting, Registers}

-- whether a walk takes an operand of a cell
abbrev pub takes_operand : Walk → Role → Cell → ℕ → Bool
takes_operand Operands r c p = true
takes_operand Counting r c p = counts r c p
takes_operand Registers r c p = true

-- whether it meets cells of this role
abbrev pub meets : Walk → Role → Bool
meets Operands r = is_passing r
meets Counting r = is_passing r
meets Registers r = is_plain r

-- the cell that it meets at a bit with this driver
abbrev pub met_by : Walk → Netlist → Driver → Option ℕ
met_by w n (Output c p i) = if meets w (role_at n c) then Some c else None
met_by w n (Read c r i) = if meets w (role_at n c) then Some c else None
met_by w n (Register c i) = if meets w (role_at n c) then Some c else None
met_by w n (Input p i) = None
met_by w n Clock = None

-- the cell that it meets at a bit that is read
unfoldable pub met_at : Walk → Netlist → Src → Option ℕ
met_at w n (Bit b) = met_by w n (driver_of n b)
met_at w n Zero = None
met_at w n One = None

-- it meets cell c among the first bits of an operand, so many
pub record IsMetAmong (w : Walk) (n : Netlist) (sources : List Src) (end c : ℕ) : Type 0 where
  pub place : ℕ
  pub before : place < end
  pub is : met_at w n (get_or sources place Zero) ≡ Some c

-- it meets cell c among the first operands of cell d, so many
pub record IsMetBefore (w : Walk) (n : Netlist) (d end c : ℕ) : Type 0 where
  pub operand : ℕ
  pub before : operand < end
  pub place : ℕ
  pub taken : takes_operand w (role_at n d) (cell_at n d) operand ≡ true
  pub is : met_at w n (operand_at (cell_at n d) operand place) ≡ Some c

-- it meets cell c at an operand bit of cell d
pub record IsMet (w : Walk) (n : Netlist) (d c : ℕ) : Type 0 where
  pub operand : ℕ
  pub place : ℕ
  pub taken : takes_operand w (role_at n d) (cell_at n d) operand ≡ true
  pub is : met_at w n (operand_at (cell_at n d) operand place) ≡ Some c

-- it meets cell c from one of the first cells, so many, that are chosen
pub record IsMetFrom (w : Walk) (n : Netlist) (chosen : List Bool) (end c : ℕ) : Type 0 where
  pub from : ℕ
  pub before : from < end
  pub is_chosen : bit chosen from ≡ true
  pub met : IsMet w n from c
