use Rattle.std.proofs.Common.{◌≡◌, map, take}
use Rattle.cif_checks.specs.Known.{value_at}
use Rattle.cif_checks.proofs.given.values_given.Given as goal

abbrev pub invariant-loop-param : goal.invariant-loop-param
invariant-loop-param l = l.values.items ≡ map (value_at l.cell) (take l.param-index l.params)
