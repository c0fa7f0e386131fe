-- What the terms of a memory have to be: what they give is its taint, for all values and taints.
use Rattle.std.specs.Prelude.{ℕ, suc, ◌+◌, ◌*◌, ◌<◌, ◌≤◌, ◌≡◌, ◌||◌, List, [], ◌∷◌, ◌++◌, length}
use Rattle.cif_defs.specs.Words.{Word, bit, block, flag_word, operand}
use Rattle.cif_defs.specs.Cells.{Cell, number_of, shape_of, width}
use Rattle.cif_defs.specs.Memory.{MemoryShape, next_memory, next_memory_taint, read_taint, read_word, sets_flag, write_address}
use Rattle.cif_defs.specs.Weights.{weight}
use Rattle.cif_defs.specs.declared.kinds.Param.TheVariants.{Abits, RdPorts, WrPorts}
use Rattle.cif_term.specs.Formulas.{Formula, IsFormed, cost_of, value_of}
use Rattle.rule_memory.specs.MemoryFormulas.{MemoryFormulas}

-- ---- a read

-- how many bits the operands have: the address, the flag, and the stored taint that is read
abbrev pub read_widths : Cell → List ℕ
read_widths c = number_of c Abits ∷ 1 ∷ width c ∷ []

-- f computes the taint of a read where `taint` is the stored taint of the memory, of which a plain read gives a word
pub record IsReadTaint (c : Cell) (f : Formula) : Type 0 where
  pub formed : IsFormed f (read_widths c) [] (width c) 3
  pub means : (address address_taint flag flag_taint taint read_taints : Word)
      → value_of f (address ∷ flag ∷ read_word (shape_of c) address taint ∷ []) (address_taint ∷ flag_taint ∷ read_taints ∷ []) []
      ≡ read_taint (shape_of c) address address_taint (bit flag 0) taint

-- ---- the stored taint

-- what write port p has of the operands us: its enables, its address and its data
abbrev pub port_words : MemoryShape → List Word → ℕ → List Word
port_words m us p = block m.width p (operand us 1) ∷ write_address m us p ∷ block m.width p (operand us 3) ∷ []

abbrev pub port_widths : Cell → List ℕ
port_widths c = width c ∷ number_of c Abits ∷ width c ∷ []

-- us are operands that write taint: at each write port the address of vs, and the enables and the word that formulas give
-- for vs with the taints ts
pub record AreTaintWrites (m : MemoryShape) (enable written : Formula) (vs ts us : List Word) : Type 0 where
  pub enables : (p : ℕ) → p < m.write_ports → block m.width p (operand us 1) ≡ value_of enable (port_words m vs p) (port_words m ts p) []
  pub addresses : (p : ℕ) → p < m.write_ports → write_address m us p ≡ write_address m vs p
  pub words : (p : ℕ) → p < m.write_ports → block m.width p (operand us 3) ≡ value_of written (port_words m vs p) (port_words m ts p) []

-- a plain memory of c's shape that is written so stores the taint of c, cycle by cycle
pub record AreStoredTaint (c : Cell) (enable written : Formula) : Type 0 where
  pub enable_formed : IsFormed enable (port_widths c) [] (width c) 3
  pub word_formed : IsFormed written (port_widths c) [] (width c) 1
  pub means : (vs ts us : List Word) (taint : Word) → AreTaintWrites (shape_of c) enable written vs ts us
      → next_memory (shape_of c) us taint ≡ next_memory_taint (shape_of c) vs ts taint

-- ---- the flag

abbrev pub flag_widths : Cell → List ℕ
flag_widths c = port_widths c ++ 1 ∷ []

-- f computes the flag after write port p from the flag before it
pub record IsFlagAfter (c : Cell) (f : Formula) : Type 0 where
  pub formed : IsFormed f (flag_widths c) [] 1 5
  pub means : (vs ts : List Word) (p : ℕ) (flag flag_taint : Word) → length flag ≡ 1
      → value_of f (port_words (shape_of c) vs p ++ flag ∷ []) (port_words (shape_of c) ts p ++ flag_taint ∷ []) []
      ≡ flag_word 1 (bit flag 0 || sets_flag (shape_of c) vs ts p)

-- flags 0 is a flag, and flags (p + 1) is what the formula gives after port p
pub record AreFlags (m : MemoryShape) (f : Formula) (vs ts : List Word) (flags flag_taints : ℕ → Word) : Type 0 where
  pub first : length (flags 0) ≡ 1
  pub each : (p : ℕ) → p < m.write_ports → flags (suc p) ≡ value_of f (port_words m vs p ++ flags p ∷ []) (port_words m ts p ++ flag_taints p ∷ []) []

-- ---- all of them

-- what the formulas cost at all ports together, in cells
abbrev pub memory_cost : Cell → MemoryFormulas → ℕ
memory_cost c fs =
    number_of c RdPorts * cost_of fs.read (read_widths c) []
    + number_of c WrPorts * (cost_of fs.enable (port_widths c) [] + cost_of fs.word (port_widths c) [] + cost_of fs.flag (flag_widths c) [])

pub record AreMemoryTaints (c : Cell) (fs : MemoryFormulas) : Type 0 where
  pub read : IsReadTaint c fs.read
  pub stored : AreStoredTaint c fs.enable fs.word
  pub flag : IsFlagAfter c fs.flag
  -- with two cells besides, which store taint and flag
  pub cost : memory_cost c fs + 2 ≤ weight c
