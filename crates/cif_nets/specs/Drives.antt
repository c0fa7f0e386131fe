-- What drives a net number, as it is read from the places of a module.
use Rattle.std.specs.Prelude.{ℕ, ◌/◌, ◌%◌, ◌<◌}
use Rattle.cif_defs.specs.Accepted.{driven}
use Rattle.cif_defs.specs.declared.nets.Driver.{Driver}
use Rattle.cif_defs.specs.declared.nets.Driver.TheVariants.{Input, Output, Register, Read}
use Rattle.cif_defs.specs.declared.raw_module.Raw.{Raw}
use Rattle.cif_nets.specs.Told.{told}
use Rattle.cif_nets.specs.declared.drives.DrivenBy.{DrivenBy}
use Rattle.cif_nets.specs.declared.drives.DrivenBy.TheVariants.{Nothing, One, Several}
use Rattle.cif_nets.specs.declared.drives.Origin.{Origin}
use Rattle.cif_nets.specs.declared.drives.Origin.TheVariants.{InputPort, OutputPort, RegisterWord, ReadPorts}

-- with one more driver
abbrev pub driven_more : DrivenBy → Driver → DrivenBy
driven_more Nothing d = One d
driven_more (One e) d = Several
driven_more Several d = Several

-- what drives a number of a module
abbrev pub driven_by : Raw → ℕ → DrivenBy
driven_by raw x = told driven_more Nothing (driven raw) x

-- the driver that bit i of an origin is
abbrev pub driver_at : Origin → ℕ → Driver
driver_at (InputPort p) i = Input p i
driver_at (OutputPort c p) i = Output c p i
driver_at (RegisterWord c) i = Register c i
driver_at (ReadPorts c w) i = Read c (i / w) (i % w)

-- the words of read ports have bits
abbrev pub HasWidth : Origin → Type 0
HasWidth (InputPort p) = Unit {0}
HasWidth (OutputPort c p) = Unit {0}
HasWidth (RegisterWord c) = Unit {0}
HasWidth (ReadPorts c w) = 0 < w
