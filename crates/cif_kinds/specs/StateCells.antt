-- What an accepted register or memory has. In each record c is a cell, and us are the words of its operands.
use Rattle.std.specs.Prelude.{ℕ, ◌*◌, ◌^◌, ◌<◌, ◌≤◌, ◌≡◌, List, [], length, get_or}
use Rattle.cif_defs.specs.Words.{Word, operand}
use Rattle.cif_defs.specs.Cells.{Cell, number_of, width}
use Rattle.cif_defs.specs.Table.{operands_of}
use Rattle.cif_defs.specs.declared.kinds.Param.TheVariants.{Size, Offset, Abits, RdPorts, WrPorts}

-- operand 0 is D; the others, the enable and the reset as far as the kind has them, have one bit
pub record HasRegisterPorts (c : Cell) (us : List Word) : Type 0 where
  pub operands : length us ≡ length (operands_of c.kind)
  pub d : length (operand us 0) ≡ width c
  pub controls : (p : ℕ) → 1 ≤ p → p < length us → length (operand us p) ≡ 1
  pub q : length (get_or c.outputs 0 []) ≡ width c
  pub some : 1 ≤ width c
  pub limit : width c ≤ 4096

-- the joined ports of a memory, in each of which port 0 is lowest
pub record HasMemoryPorts (c : Cell) (us : List Word) : Type 0 where
  pub operands : length us ≡ 4
  pub read_address : length (operand us 0) ≡ number_of c RdPorts * number_of c Abits
  pub write_enable : length (operand us 1) ≡ number_of c WrPorts * width c
  pub write_address : length (operand us 2) ≡ number_of c WrPorts * number_of c Abits
  pub write_data : length (operand us 3) ≡ number_of c WrPorts * width c
  pub read_data : length (get_or c.outputs 0 []) ≡ number_of c RdPorts * width c

-- the numbers of a memory: rows of 1 to 4,096 bits, addresses of 1 to 32 bits
pub record HasMemoryNumbers (c : Cell) : Type 0 where
  pub some_bits : 1 ≤ width c
  pub width_limit : width c ≤ 4096
  pub some_rows : 1 ≤ number_of c Size
  pub some_address : 1 ≤ number_of c Abits
  pub address_limit : number_of c Abits ≤ 32
  pub offset_limit : number_of c Offset < 2 ^ 32
  pub read_ports_limit : number_of c RdPorts ≤ 65536
  pub write_ports_limit : number_of c WrPorts ≤ 65536
  pub bits_limit : number_of c Size * width c ≤ 16777216
