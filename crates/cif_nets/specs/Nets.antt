-- What a module's net numbers and their drivers are, once its counts, ports and cells have passed.
use Rattle.std.specs.Prelude.{ℕ, ◌≤◌, ◌≡◌, Bool, true, false, List, [], ◌∷◌, map, length, get_or, Option, Some, None}
use Rattle.cif_defs.specs.RawModule.{net_numbers}
use Rattle.cif_defs.specs.declared.nets.Driver.{Driver}
use Rattle.cif_defs.specs.declared.nets.Driver.TheVariants.{Clock}
use Rattle.cif_defs.specs.declared.raw_module.Raw.{Raw}
use Rattle.cif_checks.specs.Checks.{◌else_by◌, fault_if, clock_uses, counts_fault, ports_fault, cells_fault}
use Rattle.cif_nets.specs.Clocks.{first_edge}
use Rattle.cif_nets.specs.Drives.{driven_by}
use Rattle.cif_nets.specs.declared.clock.ClockEdge.{ClockEdge}
use Rattle.cif_nets.specs.declared.drives.DrivenBy.{DrivenBy}
use Rattle.cif_nets.specs.declared.drives.DrivenBy.TheVariants.{Nothing, One, Several}
use Rattle.cif_checks.specs.declared.fault.BuildFault.{BuildFault}
use Rattle.cif_checks.specs.declared.fault.BuildFault.TheVariants.{MultiDriven}

pub record HoldsNets (raw : Raw) (numbers : List ℕ) (drives : List DrivenBy) (clock : Option ClockEdge) : Type 0 where
  pub counts : counts_fault raw ≡ None
  pub ports : ports_fault raw ≡ None
  pub cells : cells_fault raw ≡ None
  pub few_cells : length raw.cells ≤ 400000
  pub few_bits : length (net_numbers raw) ≤ 4194304
  pub same_numbers : numbers ≡ net_numbers raw
  pub same_drives : drives ≡ map (driven_by raw) (net_numbers raw)
  pub same_clock : clock ≡ first_edge (clock_uses raw)

abbrev pub is_several : DrivenBy → Bool
is_several Nothing = false
is_several (One d) = false
is_several Several = true

abbrev pub is_driven : DrivenBy → Bool
is_driven Nothing = false
is_driven (One d) = true
is_driven Several = true

-- the one driver, or else the clock
abbrev pub driver_or_clock : DrivenBy → Driver
driver_or_clock Nothing = Clock
driver_or_clock (One d) = d
driver_or_clock Several = Clock

-- the first number with several drivers
abbrev pub several_fault : List ℕ → List DrivenBy → Option BuildFault
several_fault [] ds = None
several_fault (n ∷ ns) [] = None
several_fault (n ∷ ns) (d ∷ ds) = fault_if (is_several d) (MultiDriven n) else_by several_fault ns ds

-- what drives the number at a place
abbrev pub drive_at : List DrivenBy → Option ℕ → DrivenBy
drive_at ds None = Nothing
drive_at ds (Some i) = get_or ds i Nothing

-- the faults of the first three passes
abbrev pub first_faults : Raw → Option BuildFault
first_faults raw = counts_fault raw else_by ports_fault raw else_by cells_fault raw
