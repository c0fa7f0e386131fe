use Rattle.std.proofs.Common.{◌≡◌, drop}
use Rattle.cif_defs.specs.Accepted.{driven_by_outputs}
use Rattle.cif_nets.specs.Told.{told_all}
use Rattle.cif_nets.specs.Drives.{driven_more}
use Rattle.cif_nets.proofs.drives.record_ports.Given as goal

abbrev pub invariant-loop-port : goal.invariant-loop-port
invariant-loop-port l =
    told_all driven_more l.numbers l.drives (driven_by_outputs l.index l.port (drop l.port l.ports))
    ≡ told_all driven_more l.numbers l.initial.drives (driven_by_outputs l.index 0 l.ports)
