-- What is known of each wire of a script.
use Rattle.std.specs.Prelude.{ℕ, ◌<◌, ◌≤◌, ◌≡◌, List, length, get_or, Some}
use Rattle.cif_defs.specs.Accepted.{netlist_of}
use Rattle.cif_defs.specs.declared.nets.Src.TheVariants.{Bit, Zero}
use Rattle.cif_defs.specs.declared.nets.Wire.{Wire}
use Rattle.cif_defs.specs.declared.raw_module.Raw.{Raw}
use Rattle.cif_cells.specs.Finding.{a_wire, found_of, wire_limit}
use Rattle.cif_script.specs.Scripts.{wire_at}
use Rattle.cif_script.specs.ScriptText.{place_of}

-- it is what its name stands for in a netlist, it isn't wide, and its net bits are net bits of the netlist
pub record IsWireOf (raw : Raw) (w : Wire) : Type 0 where
  pub found : found_of raw w.name ≡ a_wire w
  pub narrow : length w.bits ≤ wire_limit
  pub inside : (i b : ℕ) → get_or w.bits i Zero ≡ Bit b → b < length (netlist_of raw).drivers

-- each wire is the first of its name, so that no two have one name
abbrev pub AreApart : List Wire → Type 0
AreApart wires = (i : ℕ) → i < length wires → place_of wires (wire_at wires i).name ≡ Some i
