use Rattle.std.proofs.Common.{◌≡◌, ◌++◌, drop}
use Rattle.cif_enumerate.specs.TaintedPlaces.{places_from}
use Rattle.cif_enumerate.proofs.places.tainted_places.Given as goal

-- the places so far and those of the words that are left are all
abbrev pub invariant-loop-port : goal.invariant-loop-port
invariant-loop-port l = l.places.items ++ places_from l.port (drop l.port l.taints) ≡ places_from 0 l.taints
