-- What the fields of a `Netlist` hold: the netlist of its raw module.
use Rattle.std.specs.Prelude.{ℕ, ◌≡◌, ◌<◌, ◌≤◌, List, length, get_or, Option}
use Rattle.cif_defs.specs.Words.{Word}
use Rattle.cif_defs.specs.Kinds.{role_of}
use Rattle.cif_defs.specs.declared.kinds.Role.TheVariants.{MemoryBlock}
use Rattle.cif_defs.specs.Cells.{Cell}
use Rattle.cif_defs.specs.Accepted.{netlist_of}
use Rattle.cif_defs.specs.Fitted.{IsFitted}
use Rattle.cif_defs.specs.Order.{IsInOrder}
use Rattle.cif_defs.specs.Netlist.{IsWired, no_cell}
use Rattle.cif_defs.specs.declared.nets.Wire.{Wire}
use Rattle.cif_defs.specs.declared.nets.Driver.{Driver}
use Rattle.cif_defs.specs.declared.raw_module.Raw.{Raw}
use Rattle.cif_checks.specs.Checks.{IsAccepted}
use Rattle.cif_cells.specs.ClockBit.{clock_of}
use Rattle.cif_kinds.specs.StateCells.{HasMemoryNumbers}
use Rattle.cif_cells.specs.Wires.{HoldsWires}
use Rattle.cif_cells.specs.declared.finding.Wires.{Wires}

pub record Holds (raw : Raw) (inputs outputs : List Wire) (cells : List Cell) (drivers : List Driver) (initial : List Word) (clock : Option ℕ) (wires : Wires) : Type 0 where
  pub in_order : IsInOrder raw
  pub accepted : IsAccepted raw
  pub wired : IsWired (netlist_of raw)
  pub few_cells : length (netlist_of raw).cells ≤ 400000
  pub few_bits : length (netlist_of raw).drivers ≤ 4194304
  pub same_inputs : inputs ≡ (netlist_of raw).inputs
  pub same_outputs : outputs ≡ (netlist_of raw).outputs
  pub same_cells : cells ≡ (netlist_of raw).cells
  pub same_drivers : drivers ≡ (netlist_of raw).drivers
  pub same_initial : initial ≡ (netlist_of raw).initial
  pub same_clock : clock ≡ clock_of raw
  pub same_wires : HoldsWires raw wires

-- each cell has ports as wide as the table of kinds says; opaque, so that a search does not try each cell
unfoldable pub AreFitted : List Cell → Type 0
AreFitted cells = (i : ℕ) → i < length cells → IsFitted (get_or cells i no_cell)

-- each memory has the numbers of one; opaque likewise
unfoldable pub HaveMemoryNumbers : List Cell → Type 0
HaveMemoryNumbers cells = (i : ℕ) → i < length cells → role_of (get_or cells i no_cell).kind ≡ MemoryBlock → HasMemoryNumbers (get_or cells i no_cell)
