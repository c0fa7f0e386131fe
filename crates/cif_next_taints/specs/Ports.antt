-- What is computed at one write port of a memory.
use Rattle.std.specs.Prelude.{ℕ, ◌*◌, ◌≡◌, Bool, List, [], ◌∷◌, ◌++◌, take, drop, get_or}
use Rattle.cif_defs.specs.Cells.{Cell, number_of, width}
use Rattle.cif_defs.specs.declared.kinds.Param.TheVariants.{Abits}
use Rattle.cif_defs.specs.declared.raw_module.RawBit.{RawBit}
use Rattle.cif_defs.specs.declared.raw_module.RawBit.TheVariants.{Zero}
use Rattle.cif_term.specs.Formulas.{IsFormed, value_of}
use Rattle.rule_memory.specs.MemoryFormulas.{MemoryFormulas}
use Rattle.cif_raw_runs.specs.Assigned.{raw_bit, raw_word, raw_words}
use Rattle.cif_emit.specs.Emitted.{taint_bits, value_bits}
use Rattle.cif_emit.specs.declared.terms.OperandPair.{OperandPair}
use Rattle.cif_next_taints.specs.declared.memories.PortWrites.{PortWrites}
use Rattle.cif_next_taints.specs.declared.memories.WriteOperands.{WriteOperands}

-- what port p has of bits that are joined over ports of n bits
abbrev pub part_of : ℕ → ℕ → List RawBit → List RawBit
part_of n p bits = take n (drop (p * n) bits)

abbrev pub pair_part : ℕ → ℕ → OperandPair → OperandPair
pair_part n p o = record { values = part_of n p o.values; taints = part_of n p o.taints }

-- its enables, its address and its word
abbrev pub port_operands : Cell → WriteOperands → ℕ → List OperandPair
port_operands c o p = pair_part (width c) p o.enables ∷ pair_part (number_of c Abits) p o.addresses ∷ pair_part (width c) p o.words ∷ []

-- a flag as an operand
abbrev pub flag_operand : RawBit → OperandPair
flag_operand flag = record { values = flag ∷ []; taints = Zero ∷ [] }

abbrev pub port_bits_written : PortWrites → List RawBit
port_bits_written w = w.enables ++ w.words ++ w.flag ∷ []

-- formulas that are formed for operands of these widths at a port: what they give for enables and words is as wide as its enables
pub record AreFormedAt (fs : MemoryFormulas) (ws : List ℕ) : Type 0 where
  pub enable : IsFormed fs.enable ws [] (get_or ws 0 0) 3
  pub word : IsFormed fs.word ws [] (get_or ws 0 0) 1
  pub flag : IsFormed fs.flag (ws ++ 1 ∷ []) [] 1 5

-- what the formulas of a memory give for the operands of a port, and for the flag before it
pub record AreNextAtPort (fs : MemoryFormulas) (operands : List OperandPair) (now : RawBit) (w : PortWrites) (v : ℕ → Bool) : Type 0 where
  pub enables : raw_word v w.enables ≡ value_of fs.enable (raw_words v (value_bits operands)) (raw_words v (taint_bits operands)) []
  pub words : raw_word v w.words ≡ value_of fs.word (raw_words v (value_bits operands)) (raw_words v (taint_bits operands)) []
  pub flag : raw_bit v w.flag ∷ []
      ≡ value_of fs.flag (raw_words v (value_bits (operands ++ flag_operand now ∷ []))) (raw_words v (taint_bits (operands ++ flag_operand now ∷ []))) []
