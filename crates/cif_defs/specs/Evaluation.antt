-- Evaluation cell by cell, in an order.
use Rattle.std.specs.Prelude.{ℕ, Bool, false, ◌==◌, List, [], ◌∷◌, if◌then◌else◌}
use Rattle.cif_defs.specs.Netlist.{Netlist, driver_of}
use Rattle.cif_defs.specs.declared.nets.Driver.{Driver}
use Rattle.cif_defs.specs.declared.nets.Driver.TheVariants.{Input, Output, Register, Read, Clock}

-- whether a driver is a place of this cell
abbrev pub is_of_cell : ℕ → Driver → Bool
is_of_cell c (Output d p i) = c == d
is_of_cell c (Read d p i) = c == d
is_of_cell c (Register d i) = c == d
is_of_cell c (Input p i) = false
is_of_cell c Clock = false

-- the bits after one cell is evaluated, where give says what the driver of a bit gives under the bits so far
unfoldable pub evaluate_one : Netlist → ((ℕ → Bool) → ℕ → Bool) → ℕ → (ℕ → Bool) → ℕ → Bool
evaluate_one n give c v b = if is_of_cell c (driver_of n b) then give v b else v b

unfoldable pub evaluate : Netlist → ((ℕ → Bool) → ℕ → Bool) → List ℕ → (ℕ → Bool) → ℕ → Bool
evaluate n give [] v = v
evaluate n give (c ∷ cs) v = evaluate n give cs (evaluate_one n give c v)
