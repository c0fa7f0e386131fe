-- The flag through all write ports.
use Rattle.std.specs.Prelude.{ℕ, zero, suc, ◌≤◌, ◌≡◌, ◌||◌, List, length}
use Rattle.std.proofs.Common.{arith, ap, ◌∙◌}
use Rattle.cif_defs.specs.Cells.{Cell, shape_of}
use Rattle.cif_defs.specs.Memory.{flag_after, next_flag, sets_flag}
use Rattle.cif_defs.specs.Words.{Word, bit, flag_word}
use Rattle.cif_term.specs.Formulas.{Formula}
use Rattle.rule_memory.specs.MemoryTaints.{AreFlags, IsFlagAfter}
use Rattle.rule_memory.proofs.PortValues.{one_bit}

-- after the ports below any number
pub flags_after : (c : Cell) (f : Formula) → IsFlagAfter c f → (vs ts : List Word) (flags flag_taints : ℕ → Word) → AreFlags (shape_of c) f vs ts flags flag_taints
    → (p : ℕ) → p ≤ (shape_of c).write_ports → flags p ≡ flag_word 1 (flag_after (shape_of c) vs ts p (bit (flags 0) 0))
unfolding flag_after
flags_after c f is vs ts flags flag_taints are zero h = one_bit (flags 0) are.first
flags_after c f is vs ts flags flag_taints are (suc p) h =
    let before : flags p ≡ flag_word 1 (flag_after (shape_of c) vs ts p (bit (flags 0) 0)) = flags_after c f is vs ts flags flag_taints are p (omega arith) in
    are.each p (omega arith) ∙ is.means vs ts p (flags p) (flag_taints p) (ap length before)
    ∙ ap (λ (w : Word). flag_word 1 (bit w 0 || sets_flag (shape_of c) vs ts p)) before

-- the last is the flag of the next cycle
pub last_flag : (c : Cell) (f : Formula) → IsFlagAfter c f → (vs ts : List Word) (flags flag_taints : ℕ → Word) → AreFlags (shape_of c) f vs ts flags flag_taints
    → flags (shape_of c).write_ports ≡ flag_word 1 (next_flag (shape_of c) vs ts (bit (flags 0) 0))
last_flag c f is vs ts flags flag_taints are = flags_after c f is vs ts flags flag_taints are (shape_of c).write_ports (omega arith)
