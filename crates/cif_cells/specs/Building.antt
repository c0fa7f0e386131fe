-- From the checks of a module to its netlist.
use Rattle.std.specs.Prelude.{ℕ, Bool, false, ◌==◌, List, [], ◌∷◌, Option, Some, None, if◌then◌else◌}
use Rattle.cif_defs.specs.Accepted.{all_clock_bits}
use Rattle.cif_defs.specs.declared.nets.Driver.{Driver}
use Rattle.cif_defs.specs.declared.nets.Driver.TheVariants.{Clock}
use Rattle.cif_defs.specs.declared.raw_module.RawBit.{RawBit}
use Rattle.cif_defs.specs.declared.raw_module.RawBit.TheVariants.{Net}
use Rattle.cif_defs.specs.declared.raw_module.Raw.{Raw}
use Rattle.cif_checks.specs.Checks.{◌else_by◌, drivers_fault, clocks_fault, reads_fault, inits_fault}
use Rattle.cif_nets.specs.Drives.{driven_by}
use Rattle.cif_nets.specs.Nets.{driver_or_clock}
use Rattle.cif_nets.specs.declared.drives.DrivenBy.{DrivenBy}
use Rattle.cif_checks.specs.declared.fault.BuildFault.{BuildFault}

-- the faults of the last four passes
abbrev pub later_faults : Raw → Option BuildFault
later_faults raw = drivers_fault raw else_by clocks_fault raw else_by reads_fault raw else_by inits_fault raw

-- the number of a net
abbrev pub net_number : RawBit → Option ℕ
net_number (Net x) = Some x
net_number _ = None

abbrev pub first_number : List RawBit → Option ℕ
first_number [] = None
first_number (b ∷ bs) = net_number b

-- the number of the clock
abbrev pub clock_number : Raw → Option ℕ
clock_number raw = first_number (all_clock_bits raw)

abbrev pub is_number : Option ℕ → ℕ → Bool
is_number None x = false
is_number (Some y) x = y == x

-- the driver of a number, where so much is known of the clock and of the places that drive it
abbrev pub driver_with : Option ℕ → DrivenBy → ℕ → Driver
driver_with clock drive x = if is_number clock x then Clock else driver_or_clock drive

abbrev pub driver_read : Raw → ℕ → Driver
driver_read raw x = driver_with (clock_number raw) (driven_by raw x) x
