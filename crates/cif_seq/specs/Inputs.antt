-- The cursor over a stimulus that a frame keeps.
use Rattle.std.specs.Prelude.{ℕ, ◌≡◌}
use Rattle.cif_defs.specs.Netlist.{Netlist}
use Rattle.cif_defs.specs.Stimulus.{Stimulus}
use Rattle.cif_inputs.specs.Cursor.{IsAt, IsMapOf, cycle_of}
use Rattle.cif_inputs.specs.declared.inputs.InputMap.{InputMap}
use Rattle.cif_inputs.specs.declared.inputs.Inputs.{Inputs}

-- a cursor stands at cycle k, by whichever names that are looked up
pub record StandsAt (n : Netlist) (s : Stimulus) (k : ℕ) (inputs : Inputs) : Type 0 where
  pub cycle : cycle_of inputs ≡ k
  pub at : (names : InputMap) → IsMapOf n s names → IsAt n s names inputs
