use Rattle.std.proofs.Common.{◌≡◌, drop}
use Rattle.cif_defs.specs.RawModule.{value_named as value_by_name}
use Rattle.cif_checks.proofs.raw_access.value_named.Given as goal

abbrev pub invariant-loop-parameter : goal.invariant-loop-parameter
invariant-loop-parameter l = value_by_name l.name (drop l.parameter-index l.parameters) ≡ value_by_name l.name l.parameters
