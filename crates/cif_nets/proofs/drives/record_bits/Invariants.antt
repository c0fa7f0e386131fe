use Rattle.std.proofs.Common.{◌≡◌, drop}
use Rattle.cif_defs.specs.Accepted.{driven_from}
use Rattle.cif_nets.specs.Told.{told_all}
use Rattle.cif_nets.specs.Drives.{driven_more, driver_at}
use Rattle.cif_nets.proofs.drives.record_bits.Given as goal

abbrev pub invariant-loop-index : goal.invariant-loop-index
invariant-loop-index l =
    told_all driven_more l.numbers l.drives (driven_from (driver_at l.origin) l.index (drop l.index l.bits))
    ≡ told_all driven_more l.numbers l.initial.drives (driven_from (driver_at l.origin) 0 l.bits)
