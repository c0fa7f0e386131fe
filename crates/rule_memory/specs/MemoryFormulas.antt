-- The formulas of the taint of a memory whose words have n bits. They are the same for each of its ports.
use Rattle.std.specs.Prelude.{ℕ, false, true}
use Rattle.cif_defs.specs.Words.{word}
use Rattle.cif_term.specs.declared.ops.Op1.TheVariants.{ReduceOr}
use Rattle.cif_term.specs.declared.ops.Op2.TheVariants.{And, Or}
use Rattle.cif_term.specs.Formulas.{Formula, Value, Taint, Const, One, Two, Choose}

pub record MemoryFormulas : Type 0 where
  -- the taint of a read
  pub read : Formula
  -- the enables and the word with which a write port writes the stored taint
  pub enable : Formula
  pub word : Formula
  -- the flag after a write port
  pub flag : Formula

-- whether a bit of an operand is tainted
abbrev pub is_tainted : ℕ → Formula
is_tainted p = One ReduceOr (Taint p)

-- ---- a read: the operands are its address, the flag, and the stored taint that is read at that address

-- all ones where an address bit is tainted or the flag is set, else the stored taint
abbrev pub read_formula : ℕ → Formula
read_formula n = Choose (Two Or (is_tainted 0) (Value 1)) (Value 2) (Const (word n (λ i. true)))

-- ---- a write port: the operands are its enables, its address and its data

-- the enables that are 1 or tainted
abbrev pub possible_enables : Formula
possible_enables = Two Or (Value 0) (Taint 0)

-- none where an address bit is tainted, else those that are 1 or tainted
abbrev pub enable_formula : ℕ → Formula
enable_formula n = Choose (is_tainted 1) possible_enables (Const (word n (λ i. false)))

-- the taint of data or of enable
abbrev pub word_formula : Formula
word_formula = Two Or (Taint 2) (Taint 0)

-- whether the flag before, which stands after the data, is set, or an address bit is tainted and an enable 1 or tainted
abbrev pub flag_formula : Formula
flag_formula = Two Or (Value 3) (Two And (is_tainted 1) (One ReduceOr possible_enables))

-- ---- all of them

abbrev pub memory_formulas : ℕ → MemoryFormulas
memory_formulas n = record { read = read_formula n; enable = enable_formula n; word = word_formula; flag = flag_formula }
