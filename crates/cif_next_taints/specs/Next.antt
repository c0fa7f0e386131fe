-- What the new cells that hold the taint of a register or of a memory store next, and what has to be known to compute it.
use Rattle.std.specs.Prelude.{ℕ, ◌*◌, ◌≡◌, Bool, List, [], ◌∷◌, ◌++◌, length}
use Rattle.cif_defs.specs.Words.{Word}
use Rattle.cif_defs.specs.Memory.{next_flag, next_memory, next_memory_taint}
use Rattle.cif_defs.specs.Cells.{Cell, number_of, shape_of, width}
use Rattle.cif_defs.specs.Fitted.{operand_widths}
use Rattle.cif_defs.specs.Taint.{next_register_taint}
use Rattle.cif_defs.specs.declared.kinds.Param.TheVariants.{Abits, WrPorts}
use Rattle.cif_defs.specs.declared.raw_module.RawBit.{RawBit}
use Rattle.cif_raw_runs.specs.Assigned.{raw_bit, raw_word, raw_words}
use Rattle.cif_emit.specs.Emitted.{all_bits, taint_bits, value_bits, widths}
use Rattle.cif_emit.specs.declared.terms.OperandPair.{OperandPair}
use Rattle.cif_next_taints.specs.declared.memories.MemoryWrites.{MemoryWrites}
use Rattle.cif_next_taints.specs.declared.memories.WriteOperands.{WriteOperands}

-- the bits of operands, and those of their taints
abbrev pub bits_of : List OperandPair → List RawBit
bits_of operands = all_bits (value_bits operands) ++ all_bits (taint_bits operands)

-- an operand of n bits, each with a taint
pub record IsWide (n : ℕ) (o : OperandPair) : Type 0 where
  pub values : length o.values ≡ n
  pub taints : length o.taints ≡ n

-- ---- a register

-- the operands of a register, and the word that it stores
pub record AreRegisterOperands (c : Cell) (operands : List OperandPair) (stored : OperandPair) : Type 0 where
  pub values : widths (value_bits operands) ≡ operand_widths c
  pub taints : widths (taint_bits operands) ≡ operand_widths c
  pub word : IsWide (width c) stored

-- w is the taint of the word that a register stores next
abbrev pub IsNextRegister : Cell → List OperandPair → OperandPair → (ℕ → Bool) → Word → Type 0
IsNextRegister c operands stored v w =
    w ≡ next_register_taint c (raw_words v (value_bits operands)) (raw_words v (taint_bits operands)) (raw_word v stored.values) (raw_word v stored.taints)

-- ---- a memory

-- the operands with which a memory is written, joined over its write ports
pub record AreWriteOperands (c : Cell) (o : WriteOperands) : Type 0 where
  pub enables : IsWide (number_of c WrPorts * width c) o.enables
  pub addresses : IsWide (number_of c WrPorts * number_of c Abits) o.addresses
  pub words : IsWide (number_of c WrPorts * width c) o.words

abbrev pub write_bits : WriteOperands → List RawBit
write_bits o = bits_of (o.enables ∷ o.addresses ∷ o.words ∷ [])

-- the words at the operands of a memory that is read at some addresses, and written with what these bits hold
abbrev pub words_with : Word → List RawBit → List RawBit → List RawBit → (ℕ → Bool) → List Word
words_with read enables addresses words v = read ∷ raw_word v enables ∷ raw_word v addresses ∷ raw_word v words ∷ []

abbrev pub values_with : Word → WriteOperands → (ℕ → Bool) → List Word
values_with read o v = words_with read o.enables.values o.addresses.values o.words.values v

abbrev pub taints_with : Word → WriteOperands → (ℕ → Bool) → List Word
taints_with read o v = words_with read o.enables.taints o.addresses.taints o.words.taints v

-- the bits that a memory of taints takes for its enables and its words, and the bit that its flag register takes
abbrev pub bits_written : MemoryWrites → List RawBit
bits_written w = w.enables.items ++ w.words.items ++ w.flag ∷ []

-- a memory of c's shape and with its addresses stores the next taint of c, whatever taint it stores now, where it is
-- written so; and the flag is the next one, where the bit `now` holds the flag now
pub record AreNextMemory (c : Cell) (o : WriteOperands) (now : RawBit) (w : MemoryWrites) (v : ℕ → Bool) : Type 0 where
  pub stores : (read read_taint taint : Word)
      → next_memory (shape_of c) (words_with read w.enables.items o.addresses.values w.words.items v) taint
      ≡ next_memory_taint (shape_of c) (values_with read o v) (taints_with read_taint o v) taint
  pub flag : (read read_taint : Word) → raw_bit v w.flag ≡ next_flag (shape_of c) (values_with read o v) (taints_with read_taint o v) (raw_bit v now)
