-- Which cells read a net bit, and which are marked once bits have changed.
use Rattle.std.specs.Prelude.{ℕ, ◌≡◌, Bool, true, false, List}
use Rattle.cif_defs.specs.Words.{bit}
use Rattle.cif_defs.specs.Netlist.{Netlist, cell_at, operand_at}
use Rattle.cif_defs.specs.declared.nets.Src.TheVariants.{Bit}

-- cell c has net bit b among its operand bits
pub record Reads (n : Netlist) (c b : ℕ) : Type 0 where
  pub operand : ℕ
  pub place : ℕ
  pub is_operand : operand_at (cell_at n c) operand place ≡ Bit b

-- from some values and taints of net bits to others: marks stay, and each cell that reads a bit that changed is marked
pub record Notes (n : Netlist) (values taints new_values new_taints marks new_marks : List Bool) : Type 0 where
  pub kept : (c : ℕ) → bit marks c ≡ true → bit new_marks c ≡ true
  pub noted : (c x : ℕ) → Reads n c x → bit new_marks c ≡ false → (bit new_values x ≡ bit values x) × (bit new_taints x ≡ bit taints x)
