-- The clock as its first use has it.
use Rattle.std.specs.Prelude.{ℕ, ◌&&◌, ◌==◌, not, List, [], ◌∷◌, Option, Some, None}
use Rattle.std.specs.List.{flat_map}
use Rattle.cif_defs.specs.Table.{kind_of}
use Rattle.cif_defs.specs.RawModule.{operand_bits}
use Rattle.cif_defs.specs.declared.raw_module.RawPort.{RawPort}
use Rattle.cif_defs.specs.declared.raw_module.RawCell.{RawCell}
use Rattle.cif_defs.specs.declared.raw_module.Raw.{Raw}
use Rattle.cif_checks.specs.Checks.{◌else_by◌, fault_if, first_fault, data_fault, reads_number, ClockUse, clock_uses_by, is_clock_input, is_same_bit}
use Rattle.cif_nets.specs.declared.clock.ClockEdge.{ClockEdge}
use Rattle.cif_checks.specs.declared.fault.BuildFault.{BuildFault}
use Rattle.cif_checks.specs.declared.fault.BuildFault.TheVariants.{ClockAsData, NoClockInput, TwoClocks}

-- what the first of some uses has
abbrev pub first_edge : List ClockUse → Option ClockEdge
first_edge [] = None
first_edge (u ∷ us) = Some (record { bit = u.bit; polarity = u.polarity })

-- the uses of a cell
abbrev pub uses_of : RawCell → List ClockUse
uses_of c = clock_uses_by c (kind_of c.kind)

-- a use that differs from the clock, or that is no input
abbrev pub edge_fault : List RawPort → ClockEdge → ClockUse → Option BuildFault
edge_fault ports edge later =
    fault_if (not (is_clock_input ports later.bit)) (NoClockInput later.user.name)
    else_by fault_if (not (is_same_bit edge.bit later.bit && edge.polarity == later.polarity)) (TwoClocks later.user.name)

-- all uses, and then the clock as data
abbrev pub edge_faults : Raw → ClockEdge → Option BuildFault
edge_faults raw edge = first_fault (edge_fault raw.ports edge) (flat_map uses_of raw.cells) else_by data_fault raw edge.bit

-- a cell that reads a net number as an operand
abbrev pub operand_fault : ℕ → RawCell → Option BuildFault
operand_fault x c = fault_if (reads_number x (operand_bits c)) (ClockAsData c.name)

-- a port that shows a net number
abbrev pub port_fault : ℕ → RawPort → Option BuildFault
port_fault x p = fault_if (reads_number x p.bits) (ClockAsData p.name)
