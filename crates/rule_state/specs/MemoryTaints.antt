-- What one write port does to the taint of a memory, and the taint of one read.
use Rattle.std.specs.Prelude.{ℕ, ◌+◌, ◌*◌, ◌==◌, ◌≡◌, Bool, not, ◌&&◌, ◌||◌, List, length, if◌then◌else◌}
use Rattle.cif_defs.specs.Words.{Word, bit, block, has_one, number, operand, word}
use Rattle.cif_defs.specs.Cells.{Cell, number_of, width}
use Rattle.cif_defs.specs.Memory.{MemoryShape, write_address, written_taint_bit}
use Rattle.cif_defs.specs.declared.kinds.Param.TheVariants.{Abits}
use Rattle.rule_state.specs.declared.memory.WritePort.{WritePort}

-- the words of a port are as long as the cell says
pub record HasPortWidths (c : Cell) (port : WritePort) : Type 0 where
  pub addr : length port.addr ≡ number_of c Abits
  pub addr_taint : length port.addr_taint ≡ number_of c Abits
  pub enable : length port.enable ≡ width c
  pub enable_taint : length port.enable_taint ≡ width c
  pub word : length port.word ≡ width c
  pub word_taint : length port.word_taint ≡ width c

-- whether the enable of bit i is 1 or tainted
abbrev pub may_write : WritePort → ℕ → Bool
may_write port i = bit port.enable i || bit port.enable_taint i

-- whether an address bit is tainted, and an enable is 1 or tainted
abbrev pub port_sets_flag : WritePort → Bool
port_sets_flag port = has_one port.addr_taint && (has_one port.enable || has_one port.enable_taint)

-- the stored taint of the word of n bits at an address, after a port: where its address is untainted and is that one, a
-- bit whose enable is 1 or tainted takes the taint of data or enable
abbrev pub taint_after_port : ℕ → WritePort → ℕ → Word → Word
taint_after_port n port address stored = word n (λ i.
    if not (has_one port.addr_taint) && number port.addr == address && may_write port i
    then bit port.word_taint i || bit port.enable_taint i
    else bit stored i)

-- the taint of a read: all ones where an address bit is tainted or the flag is set, else the stored taint that is read
abbrev pub taint_of_read : Word → Bool → Word → Word
taint_of_read addr_taint flag stored = word (length stored) (λ i. has_one addr_taint || flag || bit stored i)

-- ---- against the memory's own recursion over its ports

-- port is write port number p of the joined operands vs, with the taints ts
pub record IsPortOf (m : MemoryShape) (vs ts : List Word) (p : ℕ) (port : WritePort) : Type 0 where
  pub addr : port.addr ≡ write_address m vs p
  pub addr_taint : port.addr_taint ≡ write_address m ts p
  pub enable : port.enable ≡ block m.width p (operand vs 1)
  pub enable_taint : port.enable_taint ≡ block m.width p (operand ts 1)
  pub word : port.word ≡ block m.width p (operand vs 3)
  pub word_taint : port.word_taint ≡ block m.width p (operand ts 3)

-- the stored taint of row r after the write ports below p
abbrev pub taint_row : MemoryShape → List Word → List Word → ℕ → Word → ℕ → Word
taint_row m vs ts p taint r = word m.width (λ i. written_taint_bit m vs ts p taint (r * m.width + i))
