use Rattle.std.proofs.Common.{◌≡◌, ◌+◌, drop, length}
use Rattle.std.specs.List.{filter}
use Rattle.cif_defs.specs.Accepted.{driven_by_inputs, is_input}
use Rattle.cif_nets.specs.Told.{told_all}
use Rattle.cif_nets.specs.Drives.{driven_more}
use Rattle.cif_nets.proofs.drives.record_inputs.Given as goal

abbrev pub invariant-loop-port : goal.invariant-loop-port
invariant-loop-port l = record {
  told : told_all driven_more l.numbers l.drives (driven_by_inputs l.inputs (filter is_input (drop l.port-index l.ports))) ≡ told_all driven_more l.numbers l.initial.drives (driven_by_inputs 0 (filter is_input l.ports));
  counted : l.inputs + length (filter is_input (drop l.port-index l.ports)) ≡ length (filter is_input l.ports);
}
