-- The operand bits of a netlist that are net bits, each with the cell that reads it.
use Rattle.std.specs.Prelude.{ℕ, ◌<◌, ◌≡◌, ◌⊎◌, List, [], length, get_or}
use Rattle.cif_defs.specs.Cells.{Cell}
use Rattle.cif_defs.specs.Netlist.{no_cell, operand_at}
use Rattle.cif_defs.specs.declared.nets.Src.{Src}
use Rattle.cif_defs.specs.declared.nets.Src.TheVariants.{Bit, Zero}
use Rattle.cif_readers.specs.declared.readings.Reading.{Reading}

-- stands for a reading past the end
abbrev pub no_reading : Reading
no_reading = record { cell = 0; net = 0 }

abbrev pub cell_of : List Reading → ℕ → ℕ
cell_of readings i = (get_or readings i no_reading).cell

abbrev pub net_of : List Reading → ℕ → ℕ
net_of readings i = (get_or readings i no_reading).net

-- a reading of net bit b by cell c stands in a list
pub record IsReading (readings : List Reading) (c b : ℕ) : Type 0 where
  pub place : ℕ
  pub inside : place < length readings
  pub is_cell : cell_of readings place ≡ c
  pub is_net : net_of readings place ≡ b

-- to some readings were added those of cells and net bits that fit, and no others
pub record Gathers (old new : List Reading) (Fits : ℕ → ℕ → Type 0) : Type 0 where
  pub kept : (c b : ℕ) → IsReading old c b → IsReading new c b
  pub added : (c b : ℕ) → Fits c b → IsReading new c b
  pub only : (c b : ℕ) → IsReading new c b → (IsReading old c b) ⊎ (Fits c b)

-- cell k reads b as this bit
pub record IsSource (k : ℕ) (source : Src) (c b : ℕ) : Type 0 where
  pub same : c ≡ k
  pub is : source ≡ Bit b

-- cell k reads b among the first bits of an operand, so many
pub record IsAmongBits (k : ℕ) (sources : List Src) (end c b : ℕ) : Type 0 where
  pub same : c ≡ k
  pub place : ℕ
  pub before : place < end
  pub is : get_or sources place Zero ≡ Bit b

-- cell k reads b among its first operands, so many
pub record IsAmongOperands (k : ℕ) (operands : List (List Src)) (end c b : ℕ) : Type 0 where
  pub same : c ≡ k
  pub operand : ℕ
  pub before : operand < end
  pub place : ℕ
  pub is : get_or (get_or operands operand []) place Zero ≡ Bit b

-- one of the first cells, so many, reads b
pub record IsAmongCells (cells : List Cell) (end c b : ℕ) : Type 0 where
  pub before : c < end
  pub operand : ℕ
  pub place : ℕ
  pub is : operand_at (get_or cells c no_cell) operand place ≡ Bit b
