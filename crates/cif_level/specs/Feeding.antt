-- The passing cells that drive operand bits that count.
use Rattle.std.specs.Prelude.{ℕ, Option, Some, None, if◌then◌else◌}
use Rattle.cif_defs.specs.Loop.{is_passing, counts}
use Rattle.cif_defs.specs.Netlist.{Netlist, cell_at, driver_of, role_at, operand_at}
use Rattle.cif_defs.specs.declared.nets.Src.{Src}
use Rattle.cif_defs.specs.declared.nets.Src.TheVariants.{Bit, Zero, One}
use Rattle.cif_defs.specs.declared.nets.Driver.{Driver}
use Rattle.cif_defs.specs.declared.nets.Driver.TheVariants.{Input, Output, Register, Read, Clock}

-- the cell of a driver, where it is passing
abbrev pub feeder_by : Netlist → Driver → Option ℕ
feeder_by n (Output c p i) = Some c
feeder_by n (Read c r i) = Some c
feeder_by n (Register c i) = if is_passing (role_at n c) then Some c else None
feeder_by n (Input p i) = None
feeder_by n Clock = None

-- the passing cell that drives a bit that is read
unfoldable pub feeder_of : Netlist → Src → Option ℕ
feeder_of n (Bit b) = feeder_by n (driver_of n b)
feeder_of n Zero = None
feeder_of n One = None

-- the passing cell that drives bit i of operand p of cell d, where that operand counts
unfoldable pub feeder_at : Netlist → ℕ → ℕ → ℕ → Option ℕ
feeder_at n d p i = if counts (role_at n d) (cell_at n d) p then feeder_of n (operand_at (cell_at n d) p i) else None
