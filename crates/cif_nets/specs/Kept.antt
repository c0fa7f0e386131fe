-- Cells that keep words.
use Rattle.std.specs.Prelude.{Bool, true, false}
use Rattle.cif_defs.specs.declared.kinds.Role.{Role}
use Rattle.cif_defs.specs.declared.kinds.Role.TheVariants.{Combinational, PlainRegister, ResetRegister, MemoryBlock, CarriedOver}

-- registers and memories
abbrev pub is_kept : Role → Bool
is_kept PlainRegister = true
is_kept ResetRegister = true
is_kept MemoryBlock = true
is_kept Combinational = false
is_kept CarriedOver = false
