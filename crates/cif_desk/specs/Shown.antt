-- Bits that are read.
use Rattle.std.specs.Prelude.{ℕ, ◌<◌, ◌≡◌, List, length, get_or}
use Rattle.cif_defs.specs.Netlist.{Netlist}
use Rattle.cif_defs.specs.declared.nets.Src.{Src}
use Rattle.cif_defs.specs.declared.nets.Src.TheVariants.{Bit, Zero}

-- the net bits among these are net bits of the netlist
pub record AreInside (n : Netlist) (bits : List Src) : Type 0 where
  pub inside : (i b : ℕ) → get_or bits i Zero ≡ Bit b → b < length n.drivers
