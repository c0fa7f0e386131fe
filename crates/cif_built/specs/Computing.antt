-- What the new cells for a cell compute in a cycle, under any values of the net numbers that meet them.
use Rattle.std.specs.Prelude.{ℕ, ◌<◌, ◌≡◌, Bool, true, false, List, [], ◌∷◌, ◌++◌, get_or, Some}
use Rattle.cif_defs.specs.Words.{Word, bit}
use Rattle.cif_defs.specs.Kinds.{role_of, is_register, is_memory}
use Rattle.cif_defs.specs.Memory.{next_flag, next_memory, next_memory_taint, read_address, read_word}
use Rattle.cif_defs.specs.Cells.{Cell, number_of, shape_of}
use Rattle.cif_defs.specs.Taint.{next_register_taint}
use Rattle.cif_defs.specs.Accepted.{cell_of, no_bit}
use Rattle.cif_defs.specs.RawModule.{operand_bits, output_bits}
use Rattle.cif_defs.specs.declared.kinds.Kind.{Kind}
use Rattle.cif_defs.specs.declared.kinds.Kind.TheVariants.{Mem}
use Rattle.cif_defs.specs.declared.kinds.Role.{Role}
use Rattle.cif_defs.specs.declared.kinds.Role.TheVariants.{MemoryBlock, ResetRegister}
use Rattle.cif_defs.specs.declared.kinds.Param.TheVariants.{RdPorts}
use Rattle.cif_defs.specs.declared.raw_module.RawBit.{RawBit}
use Rattle.cif_defs.specs.declared.raw_module.RawBit.TheVariants.{Net}
use Rattle.cif_defs.specs.declared.raw_module.RawCell.{RawCell}
use Rattle.cif_augment.specs.Names.{has_flag, is_reset_register}
use Rattle.cif_raw_runs.specs.Assigned.{raw_bit, raw_word, words_read, AreMet}
use Rattle.cif_raw_runs.specs.Given.{shown_bits, taint_given, taints_read}
use Rattle.cif_built.specs.Makings.{Making, operand_row, shown_by}

-- the taints of the net numbers that a table says are held
abbrev pub taints_held : (ℕ → Bool) → (ℕ → RawBit) → ℕ → Bool
taints_held v shadow x = raw_bit v (shadow x)

-- the words at the operands of a cell, and their taints
abbrev pub values_at : (ℕ → Bool) → RawCell → Kind → List Word
values_at v c k = words_read v c k

abbrev pub taints_at : (ℕ → Bool) → (ℕ → RawBit) → RawCell → Kind → List Word
taints_at v shadow c k = taints_read (taints_held v shadow) c k

-- a raw cell as a cell; nothing here depends on places of its nets
abbrev pub as_cell : RawCell → Cell
as_cell c = cell_of [] c

-- ---- what is stored

-- v has what the new cells show that store for a cell: where it stores this word with this taint and this flag
pub record AreStoredWords (v : ℕ → Bool) (c : RawCell) (k : Kind) (m : Making) (stored stored_taint : Word) (raised : Bool) : Type 0 where
  pub register : is_register (role_of k) ≡ true → raw_word v (shown_by m.taint) ≡ stored_taint
  pub copy : is_reset_register (role_of k) ≡ true → raw_word v (shown_by m.copy) ≡ stored
  -- the memory of taint is read at the address of the cell's own read port
  pub memory : (t : RawCell) (p : ℕ) → is_memory (role_of k) ≡ true → m.taint ≡ Some t → p < number_of (as_cell c) RdPorts
      → raw_word v (shown_bits MemoryBlock t Mem p) ≡ read_word (shape_of (as_cell c)) (read_address (shape_of (as_cell c)) (values_at v c k) p) stored_taint
  pub flag : has_flag c ≡ true → raw_word v (shown_by m.flag) ≡ raised ∷ []
  pub no_flag : is_memory (role_of k) ≡ true → has_flag c ≡ false → raised ≡ false

-- the bits that hold the word that a register stores, as far as it can be seen
abbrev pub word_bits : RawCell → Kind → Making → List RawBit
word_bits c k m = by_role (role_of k) where
  by_role : Role → List RawBit
  by_role ResetRegister = shown_by m.copy
  by_role _ = output_bits c

-- ---- what is computed

-- at each net number that a cell shows and that isn't cleared, the bit of the table has the taint that the cell gives it
pub record ShowsTaint (cleared : ℕ → Bool) (shadow : ℕ → RawBit) (c : RawCell) (k : Kind) (m : Making) : Type 0 where
  pub shows : (v : ℕ → Bool) (stored stored_taint : Word) (flag : Bool) (p i x : ℕ) → AreMet v m.showing → AreStoredWords v c k m stored stored_taint flag
      → get_or (shown_bits (role_of k) c k p) i no_bit ≡ Net x → cleared x ≡ false
      → raw_bit v (shadow x) ≡ taint_given (role_of k) (as_cell c) (values_at v c k) (taints_at v shadow c k) stored stored_taint flag p i

-- the new cells that store for a cell are given what its taint and its flag are next
pub record StoresTaint (shadow : ℕ → RawBit) (c : RawCell) (k : Kind) (m : Making) : Type 0 where
  pub register : (v : ℕ → Bool) (t : RawCell) → is_register (role_of k) ≡ true → m.taint ≡ Some t → AreMet v (m.showing ++ m.storing)
      → raw_word v (operand_bits t) ≡ next_register_taint (as_cell c) (values_at v c k) (taints_at v shadow c k) (raw_word v (word_bits c k m)) (raw_word v (output_bits t))
  -- the memory of taint is read at the addresses of the cell, and written with its next taint
  pub addresses : (t : RawCell) → is_memory (role_of k) ≡ true → m.taint ≡ Some t → operand_row t Mem 0 ≡ operand_row c k 0
  pub memory : (v : ℕ → Bool) (t : RawCell) (taint : Word) → is_memory (role_of k) ≡ true → m.taint ≡ Some t → AreMet v (m.showing ++ m.storing)
      → next_memory (shape_of (as_cell c)) (words_read v t Mem) taint ≡ next_memory_taint (shape_of (as_cell c)) (values_at v c k) (taints_at v shadow c k) taint
  pub flag : (v : ℕ → Bool) (f : RawCell) → is_memory (role_of k) ≡ true → m.flag ≡ Some f → AreMet v (m.showing ++ m.storing)
      → raw_word v (operand_bits f) ≡ next_flag (shape_of (as_cell c)) (values_at v c k) (taints_at v shadow c k) (bit (raw_word v (output_bits f)) 0) ∷ []
