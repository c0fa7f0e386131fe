use Rattle.std.proofs.Common.{◌≡◌, ◌++◌, map, take}
use Rattle.cif_defs.specs.RawModule.{port_bits}
use Rattle.cif_checks.specs.Known.{is_connected}
use Rattle.cif_checks.proofs.known.push_ports.Given as goal

abbrev pub invariant-loop-row : goal.invariant-loop-row
invariant-loop-row l = record {
  bits : l.ports.items ≡ l.initial.ports.items ++ map (port_bits l.cell) (take l.row-index l.rows);
  flags : l.is_connected.items ≡ l.initial.is_connected.items ++ map (is_connected l.cell) (take l.row-index l.rows);
}
