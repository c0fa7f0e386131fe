use Rattle.std.proofs.Common.{◌≡◌, drop}
use Rattle.cif_defs.specs.RawModule.{bits_named as bits_by_name}
use Rattle.cif_checks.proofs.raw_access.bits_named.Given as goal

abbrev pub invariant-loop-connection : goal.invariant-loop-connection
invariant-loop-connection l = bits_by_name l.name (drop l.connection-index l.connections) ≡ bits_by_name l.name l.connections
